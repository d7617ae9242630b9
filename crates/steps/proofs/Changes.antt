-- What taking and giving up a step do to a table: which steps it then holds, which are free, and what its totals are.
-- Assumes nothing.
use mathlib.Core.Path.{◌≡◌, sym, ap, ◌∙◌}
use mathlib.Core.Logic.{◌≢◌, ◌⊎◌, inl, inr}
use Prim.Native.Nat.{ℕ, suc, ◌+◌, ◌-◌, ◌≤◌, ◌<◌}
use native.Mathlib.Decide.{dec_lt, dec_le, ℕ_discrete}
use native.Mathlib.Omega.{arith}
use lib.ListN.{length, set, length-set}
use lib.Seq.{get_or-set_same, get_or-set_other}
use Rattle.steps.specs.Tones.{Tones, step, Rising, Before, Table, ◌!◌, sum, total_power, total_bits, KeepsLimits, Held, Free}
use Rattle.steps.specs.Runs.{taking, giving_up}
use Rattle.steps.specs.Claims.{Efficient}
use Rattle.steps.proofs.Sums.{sum-at}
use Rattle.steps.proofs.Order.{adds, place, place-before, place-lt, place-rises}
use Rattle.steps.proofs.Search.{Earliest, Latest}

-- an entry of a table after a store
set_at : (t : Table) (i v j : ℕ) → i < length t → ((j ≡ i) × (set t i v ! j ≡ v)) ⊎ ((j ≢ i) × (set t i v ! j ≡ t ! j))
set_at t i v j l = go (ℕ_discrete j i)
  where
    go : Dec (j ≡ i) → ((j ≡ i) × (set t i v ! j ≡ v)) ⊎ ((j ≢ i) × (set t i v ! j ≡ t ! j))
    go (yes e) = inl (e, rw e (get_or-set_same t i v 0 l))
    go (no m) = inr (m, get_or-set_other t i j v 0 m)

module _ (T : Tones) where
  in_table : {t : Table} {i : ℕ} → KeepsLimits T t → i < T.count → i < length t
  in_table w l = omega (arith, w.sized)

  set-within : {t : Table} (i v : ℕ) → KeepsLimits T t → i < T.count → v ≤ T.limit i → KeepsLimits T (set t i v)
  set-within {t} i v w il h = record { sized = length-set t i v ∙ w.sized; under = λ j jl. go j jl (set_at t i v j (in_table w il)) }
    where
      go : (j : ℕ) → j < T.count → ((j ≡ i) × (set t i v ! j ≡ v)) ⊎ ((j ≢ i) × (set t i v ! j ≡ t ! j)) → set t i v ! j ≤ T.limit j
      go j jl (inl e) = omega (arith, ap T.limit e.0)
      go j jl (inr e) = omega (arith, w.under j jl)

  -- a sum of the tones' weights changes by that of the tone that changes
  sum-set : (p : ℕ → ℕ → ℕ) {t : Table} (i v : ℕ) → KeepsLimits T t → i < T.count
      → sum T.count (λ j. p j (set t i v ! j)) + p i (t ! i) ≡ sum T.count (λ j. p j (t ! j)) + p i v
  sum-set p {t} i v w il =
      omega (
        arith,
        sum-at T.count (λ j. p j (set t i v ! j)) (λ j. p j (t ! j)) i il (λ j jl m. ap (p j) (get_or-set_other t i j v 0 m)),
        ap (p i) (get_or-set_same t i v 0 (in_table w il)),
      )

  module _ {t : Table} {f : ℕ} (w : KeepsLimits T t) (F : Free T t f (t ! f)) where
    pub held-taking : {j b : ℕ} → Held T (taking t f) j b → Held T t j b ⊎ ((j ≡ f) × (b ≡ t ! f))
    held-taking {j} {b} h = go (set_at t f (suc (t ! f)) j (in_table w F.tone)) (dec_lt b (t ! j))
      where
        go : ((j ≡ f) × (taking t f ! j ≡ suc (t ! f))) ⊎ ((j ≢ f) × (taking t f ! j ≡ t ! j)) → Dec (b < t ! j) → Held T t j b ⊎ ((j ≡ f) × (b ≡ t ! f))
        go e (yes q) = inl (record { tone = h.tone; held = q })
        go (inl e) (no m) = inr (e.0, omega (arith, ap (◌!◌ t) e.0))
        go (inr e) (no m) = absurd (omega arith)

    free-taking : {j c : ℕ} → Free T (taking t f) j c → Free T t j c × (f ≡ j → t ! f < c)
    free-taking {j} {c} h = go (set_at t f (suc (t ! f)) j (in_table w F.tone))
      where
        go : ((j ≡ f) × (taking t f ! j ≡ suc (t ! f))) ⊎ ((j ≢ f) × (taking t f ! j ≡ t ! j)) → Free T t j c × (f ≡ j → t ! f < c)
        go (inl e) = (record { tone = h.tone; above = omega (arith, ap (◌!◌ t) e.0); below = h.below }, λ x. omega arith)
        go (inr e) = (record { tone = h.tone; above = omega arith; below = h.below }, λ x. absurd (e.0 (sym x)))

    pub taking-within : KeepsLimits T (taking t f)
    taking-within = set-within f (suc (t ! f)) w F.tone F.below

  module _ {t : Table} {h b : ℕ} (w : KeepsLimits T t) (hl : h < T.count) (top : t ! h ≡ suc b) where
    pub held-giving_up : {j c : ℕ} → Held T (giving_up t h) j c → Held T t j c × (j ≡ h → c < b)
    held-giving_up {j} {c} x = go (set_at t h (t ! h - 1) j (in_table w hl))
      where
        go : ((j ≡ h) × (giving_up t h ! j ≡ t ! h - 1)) ⊎ ((j ≢ h) × (giving_up t h ! j ≡ t ! j)) → Held T t j c × (j ≡ h → c < b)
        go (inl e) = (record { tone = x.tone; held = omega (arith, ap (◌!◌ t) e.0) }, λ y. omega arith)
        go (inr e) = (record { tone = x.tone; held = omega arith }, λ y. absurd (e.0 y))

    pub free-giving_up : {j c : ℕ} → Free T (giving_up t h) j c → Free T t j c ⊎ ((j ≡ h) × (c ≡ b))
    free-giving_up {j} {c} x = go (set_at t h (t ! h - 1) j (in_table w hl)) (dec_le (t ! j) c)
      where
        go : ((j ≡ h) × (giving_up t h ! j ≡ t ! h - 1)) ⊎ ((j ≢ h) × (giving_up t h ! j ≡ t ! j)) → Dec (t ! j ≤ c) → Free T t j c ⊎ ((j ≡ h) × (c ≡ b))
        go e (yes q) = inl (record { tone = x.tone; above = q; below = x.below })
        go (inl e) (no m) = inr (e.0, omega (arith, ap (◌!◌ t) e.0))
        go (inr e) (no m) = absurd (omega arith)

    pub giving_up-within : KeepsLimits T (giving_up t h)
    giving_up-within = set-within h (t ! h - 1) w hl (omega (arith, w.under h hl))

module _ (T : Tones) (R : Rising T) where
  pub total-taking : {t : Table} {f : ℕ} → KeepsLimits T t → Free T t f (t ! f) → total_power T (taking t f) ≡ total_power T t + step T f (t ! f)
  total-taking {t} {f} w F =
      omega (arith, sum-set T T.power f (suc (t ! f)) w F.tone, adds T R f (t ! f) F.tone F.below)

  pub total-giving_up : {t : Table} {h b : ℕ} → KeepsLimits T t → h < T.count → t ! h ≡ suc b → total_power T (giving_up t h) + step T h b ≡ total_power T t
  total-giving_up {t} {h} {b} w hl top =
      let e : t ! h - 1 ≡ b = omega arith in
      omega (
        arith,
        sum-set T T.power h (t ! h - 1) w hl,
        ap (T.power h) e,
        ap (T.power h) top,
        adds T R h b hl (omega (arith, w.under h hl)),
      )

  pub bits-taking : {t : Table} {f : ℕ} → KeepsLimits T t → Free T t f (t ! f) → total_bits T (taking t f) ≡ suc (total_bits T t)
  bits-taking {t} {f} w F = omega (arith, sum-set T (λ i b. b) f (suc (t ! f)) w F.tone)

  pub bits-giving_up : {t : Table} {h b : ℕ} → KeepsLimits T t → h < T.count → t ! h ≡ suc b → suc (total_bits T (giving_up t h)) ≡ total_bits T t
  bits-giving_up {t} {h} w hl top = omega (arith, sum-set T (λ i b. b) h (t ! h - 1) w hl)

  -- the steps free after the earliest free one is taken come after it; those held after the latest is given up come before it
  pub free-after : {t : Table} {f j c : ℕ} → KeepsLimits T t → Earliest T t f → Free T (taking t f) j c → place T f (t ! f) < place T j c
  free-after {t} {f} {j} {c} w E x =
      let y = free-taking T w E.free x in
      place-lt T R f (t ! f) j c E.free.tone x.tone x.below y.1 (E.first y.0)

  pub held-before : {t : Table} {h b j c : ℕ} → KeepsLimits T t → Latest T t h b → Held T (giving_up t h) j c → place T j c < place T h b
  held-before {t} {h} {b} {j} {c} w H x =
      let y = held-giving_up T w H.tone H.top x in
      place-lt T R j c h b x.tone H.tone (omega (arith, w.under h H.tone, H.top)) y.1 (H.last y.0)

  -- taking the earliest free step, or giving up the latest held one, keeps a table efficient
  pub efficient-taking : {t : Table} {f : ℕ} → KeepsLimits T t → Earliest T t f → Efficient T t → Efficient T (taking t f)
  efficient-taking {t} {f} w E s = record { sorted = λ {i} {b} {j} {c} x y. go i b j c y (held-taking T w E.free x) }
    where
      go : (i b j c : ℕ) → Free T (taking t f) j c → Held T t i b ⊎ ((i ≡ f) × (b ≡ t ! f)) → Before T i b j c
      go i b j c y (inl x) = s.sorted x (free-taking T w E.free y).0
      go i b j c y (inr e) = rw (e.0, e.1) (place-before T f (t ! f) j c y.tone (free-after w E y))

  pub efficient-giving_up : {t : Table} {h b : ℕ} → KeepsLimits T t → Latest T t h b → Efficient T t → Efficient T (giving_up t h)
  efficient-giving_up {t} {h} {b} w H s = record { sorted = λ {i} {b = a} {j} {c} x y. go i a j c x (free-giving_up T w H.tone H.top y) }
    where
      go : (i a j c : ℕ) → Held T (giving_up t h) i a → Free T t j c ⊎ ((j ≡ h) × (c ≡ b)) → Before T i a j c
      go i a j c x (inl y) = s.sorted (held-giving_up T w H.tone H.top x).0 y
      go i a j c x (inr e) = rw (e.0, e.1) (place-before T i a h b H.tone (held-before w H x))

  -- with the latest held step given up, an earlier free one is still the earliest
  module _ {t : Table} {f h b : ℕ} (w : KeepsLimits T t) (E : Earliest T t f) (H : Latest T t h b) (q : place T f (t ! f) < place T h b) where
    other-tone : f ≢ h
    other-tone e =
        omega (
          arith,
          place-rises T R h b (t ! h) H.tone (omega (arith, H.top)) (omega (arith, ap (◌!◌ t) e, ap T.limit e, E.free.below)),
          ap (λ (x : ℕ). place T x (t ! x)) e,
        )

    pub same_bits : giving_up t h ! f ≡ t ! f
    same_bits = get_or-set_other t h f (t ! h - 1) 0 other-tone

    pub earliest-giving_up : Earliest T (giving_up t h) f
    earliest-giving_up = record {
      free = record { tone = E.free.tone; above = omega arith; below = omega (arith, same_bits, E.free.below) };
      first = λ {j} {c} y. go j c (free-giving_up T w H.tone H.top y);
    }
      where
        go : (j c : ℕ) → Free T t j c ⊎ ((j ≡ h) × (c ≡ b)) → place T f (giving_up t h ! f) ≤ place T j c
        go j c (inl y) = rw same_bits (E.first y)
        go j c (inr e) = rw (same_bits, e.0, e.1) (omega arith)
