-- A final table is the only one, and no table within limits and budget is better.
-- Assumes nothing.
use mathlib.Core.Path.{◌≡◌, sym, ap, ◌∙◌}
use mathlib.Core.Option.{Option, none, some}
use Prim.Native.Nat.{ℕ, suc, ◌+◌, ◌-◌, ◌*◌, ◌≤◌, ◌<◌}
use native.Mathlib.Nat.{mul-le-mul_left}
use native.Mathlib.Decide.{dec_lt, dec_le, le_ind}
use native.Mathlib.Omega.{arith}
use lib.Seq.{ext_get_or}
use Rattle.steps.specs.Tones.{Tones, step, Rising, Before, Table, ◌!◌, total_power, total_bits, KeepsLimits, KeepsBudget, Held, Free}
use Rattle.steps.specs.Runs.{earliest_free, latest_held}
use Rattle.steps.specs.Claims.{Efficient, Final, Best}
use Rattle.steps.proofs.Sums.{sum-le, sum-gap, sum-trade}
use Rattle.steps.proofs.Order.{before-irreflexive, before-trans, adds, sorted-place, power-rises, size-place}
use Rattle.steps.proofs.Search.{First, Last, earliest_free-is, latest_held-is}

module _ (T : Tones) (R : Rising T) where
  -- Two efficient tables are in order: where u has more bits than t on one tone, it has no fewer on any.
  -- Otherwise a step would be held in t and free in u, and another the other way round, each before the other.
  comparable : {t u : Table} → KeepsLimits T t → Efficient T t → KeepsLimits T u → Efficient T u
      → (i : ℕ) → i < T.count → t ! i < u ! i → (j : ℕ) → j < T.count → t ! j ≤ u ! j
  comparable {t} {u} w s v r i il more j jl = go (dec_lt (u ! j) (t ! j))
    where
      go : Dec (u ! j < t ! j) → t ! j ≤ u ! j
      go (no m) = omega arith
      go (yes q) = absurd (before-irreflexive T (before-trans T there back))
        where
          there : Before T j (u ! j) i (t ! i)
          there = s.sorted (record { tone = jl; held = q }) (record { tone = il; above = omega arith; below = omega (arith, v.under i il) })

          back : Before T i (t ! i) j (u ! j)
          back = r.sorted (record { tone = il; held = more }) (record { tone = jl; above = omega arith; below = omega (arith, w.under j jl) })

  -- of two final tables neither has more bits on a tone: the one with more would break the budget
  no_more : {budget : ℕ} {t u : Table} → Final T budget t → Final T budget u → (i : ℕ) → i < T.count → ¬ (t ! i < u ! i)
  no_more {budget} {t} {u} F G i il more =
      omega (
        arith,
        sum-gap T.count (λ j. T.power j (t ! j)) (λ j. T.power j (u ! j)) i (step T i (t ! i)) il
            (λ j jl. power-rises T R j (t ! j) (u ! j) jl (comparable F.within F.efficient G.within G.efficient i il more j jl) (G.within.under j jl))
            (omega (arith, adds T R i (t ! i) il (omega (arith, ul)), power-rises T R i (suc (t ! i)) (u ! i) il more ul)),
        F.tight.full {c = t ! i} (record { tone = il; above = omega arith; below = omega (arith, ul) }),
        G.tight.fits,
      )
    where
      ul : u ! i ≤ T.limit i
      ul = G.within.under i il

  -- Final is unique.
  pub final-unique : {budget : ℕ} {t u : Table} → Final T budget t → Final T budget u → t ≡ u
  final-unique {budget} {t} {u} F G =
      ext_get_or 0 t u (F.within.sized ∙ sym G.within.sized)
      (λ i l. omega (arith, no_more F G i (rw F.within.sized at l), no_more G F i (rw F.within.sized at l)))

  -- Let no step of a tone below b bits be larger than θ, and none from b up smaller. At the price θ for a bit, b bits are then the best buy.
  tone-price : (θ i b c : ℕ) → i < T.count → b ≤ T.limit i → c ≤ T.limit i → ((k : ℕ) → k < b → step T i k ≤ θ)
      → ((k : ℕ) → b ≤ k → k < T.limit i → θ ≤ step T i k) → T.power i b + θ * c ≤ T.power i c + θ * b
  tone-price θ i b c il bl cl low high = go (dec_le b c)
    where
      go : Dec (b ≤ c) → T.power i b + θ * c ≤ T.power i c + θ * b
      go (yes q) =
          le_ind (λ (n : ℕ). n ≤ T.limit i → T.power i b + θ * n ≤ T.power i n + θ * b) (λ l. omega arith)
          (λ n r ih l. omega (arith, ih (omega arith), adds T R i n il l, high n r l)) c q cl
      go (no q) =
          le_ind {n = c} (λ (n : ℕ). n ≤ b → T.power i n + θ * c ≤ T.power i c + θ * n) (λ l. omega arith)
          (λ n r ih l. omega (arith, ih (omega arith), adds T R i n il (omega arith), low n l)) b (omega arith) (omega arith)

  -- the same over all tones, for a table none of whose held steps is larger than θ and none of whose free ones is smaller
  table-price : (θ : ℕ) {t u : Table} → KeepsLimits T t → KeepsLimits T u → ((i b : ℕ) → Held T t i b → step T i b ≤ θ)
      → ((i b : ℕ) → Free T t i b → θ ≤ step T i b) → total_power T t + θ * total_bits T u ≤ total_power T u + θ * total_bits T t
  table-price θ {t} {u} w v low high =
      sum-trade T.count θ (λ i. T.power i (t ! i)) (λ i. T.power i (u ! i)) (λ i. u ! i) (λ i. t ! i)
      (λ i il. tone-price θ i (t ! i) (u ! i) il (w.under i il) (v.under i il)
      (λ k l. low i k (record { tone = il; held = l }))
      (λ k a l. high i k (record { tone = il; above = a; below = l })))

  -- An efficient table has the least power of all that carry as many bits.
  pub efficient-least : {t : Table} → KeepsLimits T t → Efficient T t → (u : Table) → KeepsLimits T u → total_bits T u ≡ total_bits T t → total_power T t ≤ total_power T u
  efficient-least {t} w s u v e = go (latest_held T t) (latest_held-is T R t w)
    where
      go : (o : Option ℕ) → Last T t o → total_power T t ≤ total_power T u
      go none h = omega (arith, table-price 0 w v (λ i b x. absurd (h i b x)) (λ i b f. omega arith))
      go (some i) h =
          let θ : ℕ = step T i (t ! i - 1) in
          let f : total_power T t + θ * total_bits T u ≤ total_power T u + θ * total_bits T t =
          table-price θ w v (λ j c x. size-place T j c i (t ! i - 1) h.tone (h.last x))
          (λ j c x. size-place T i (t ! i - 1) j c x.tone
          (omega (arith, sorted-place T s {b = t ! i - 1} (record { tone = h.tone; held = omega arith }) x))) in
          omega (arith, ap (λ (n : ℕ). θ * n) e)

  -- Final is best.
  pub final-best : {budget : ℕ} {t : Table} → Final T budget t → Best T budget t
  final-best {budget} {t} F = record {
    most = λ u v fits. most u v fits (earliest_free T t) (earliest_free-is T R t);
    least = λ u v fits e. efficient-least F.within F.efficient u v e;
  }
    where
      most : (u : Table) → KeepsLimits T u → KeepsBudget T budget u → (o : Option ℕ) → First T t o → total_bits T u ≤ total_bits T t
      most u v fits none h =
          sum-le T.count (λ i. u ! i) (λ i. t ! i) (λ i il. full i il (dec_lt (t ! i) (T.limit i)))
        where
          full : (i : ℕ) → i < T.count → Dec (t ! i < T.limit i) → u ! i ≤ t ! i
          full i il (yes q) = absurd (h i (t ! i) (record { tone = il; above = omega arith; below = q }))
          full i il (no m) = omega (arith, v.under i il)
      most u v fits (some i) h = part (dec_le (total_bits T u) (total_bits T t))
        where
          θ : ℕ
          θ = step T i (t ! i)

          part : Dec (total_bits T u ≤ total_bits T t) → total_bits T u ≤ total_bits T t
          part (yes q) = q
          part (no m) =
              let g : total_power T t + θ * total_bits T u ≤ total_power T u + θ * total_bits T t =
              table-price θ F.within v (λ j c x. size-place T j c i (t ! i) h.free.tone (omega (arith, sorted-place T F.efficient x h.free)))
              (λ j c x. size-place T i (t ! i) j c x.tone (h.first x)) in
              let n : suc (total_bits T t) ≤ total_bits T u = omega arith in
              absurd (omega (arith, mul-le-mul_left θ n, F.tight.full h.free))
