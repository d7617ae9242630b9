-- The least of the kept ranks is the rank of the step that a rule's own search finds, however the least was found.
-- Assumes nothing.
use mathlib.Core.Path.{◌≡◌, refl, ◌∙◌}
use mathlib.Core.List.{List}
use mathlib.Core.Option.{Option, none, some}
use Prim.Native.Nat.{ℕ, ◌-◌, ◌≤◌, ◌<◌}
use native.Mathlib.Decide.{dec_lt, ℕ_discrete}
use native.Mathlib.Omega.{arith}
use borrow.Author.Tests.{lt-ltb, le-ltb}
use lib.ListN.{get_or}
use Rattle.sizes.specs.Sizes.{most_tones}
use Rattle.steps.specs.Tones.{Tones, step, Table, ◌!◌, Free}
use Rattle.steps.specs.Runs.{earliest_free, latest_held}
use Rattle.steps.proofs.Search.{Latest, earliest_free-is, latest_held-is, earliest-before, latest-after}
use Rattle.line.specs.Arrays.{Arrays, limit_at, ArraysInRange, StandsFor}
use Rattle.line.proofs.Arrays.{same_step}
use Rattle.ranks.specs.Ranks.{rank, no_step, free_rank_at, held_rank_at, Keeps, Ranked, LeastOf, rank_free, rank_held}
use Rattle.ranks.proofs.Sizes.{step-in-range}
use Rattle.ranks.proofs.Order.{before-rank}

-- ---- the least of any kept ranks

module _ {n : ℕ} {rank_of : ℕ → ℕ} {ranks : List ℕ} {r : ℕ} (K : Keeps n rank_of ranks) (L : LeastOf n ranks r) where
  -- no tone has a step
  least-none : ((i : ℕ) → i < n → rank_of i ≡ no_step) → r ≡ no_step
  least-none h = go (ℕ_discrete r no_step)
    where
      go : Dec (r ≡ no_step) → r ≡ no_step
      go (yes e) = e
      go (no m) = let a = L.among m in a.there ∙ K.kept a.tone a.inside ∙ h a.tone a.inside

  -- tone i has one, and no other tone's rank is below its own
  least_at : (i : ℕ) → i < n → rank_of i < no_step → ((j : ℕ) → j < n → rank_of i ≤ rank_of j) → r ≡ rank_of i
  least_at i l s first =
      let low : r ≤ rank_of i = omega (arith, L.low i l, K.kept i l) in
      let a = L.among (λ e. omega arith) in
      omega (arith, a.there, K.kept a.tone a.inside, first a.tone a.inside)

-- ---- those of a table's steps

module _ {count : ℕ} {A : Arrays} {bits : List ℕ} {T : Tones} {t : Table} (I : ArraysInRange count A) (S : StandsFor count A bits T t) where
  inside : {i : ℕ} → i < count → i < T.count
  inside l = omega (arith, S.describes.same_count)

  counted : {i : ℕ} → i < T.count → i < count
  counted l = omega (arith, S.describes.same_count)

  low : {i : ℕ} → i < count → i < most_tones
  low l = omega (arith, I.count_high)

  -- a tone with a free step, and one without
  free-there : (i : ℕ) → i < count → t ! i < T.limit i → free_rank_at A bits i ≡ rank (step T i (t ! i)) i
  free-there i l h =
      let below : get_or bits i 0 < limit_at A i = omega (arith, S.same_bits i l, S.describes.same_limit i l) in
      rw (lt-ltb (get_or bits i 0) (limit_at A i) below, same_step S.describes i (t ! i) l h, S.same_bits i l)

  none_free : (i : ℕ) → i < count → T.limit i ≤ t ! i → free_rank_at A bits i ≡ no_step
  none_free i l h =
      let full : limit_at A i ≤ get_or bits i 0 = omega (arith, S.same_bits i l, S.describes.same_limit i l) in
      rw (le-ltb (get_or bits i 0) (limit_at A i) full)

  -- a tone with a held step, and one without
  held-there : (i : ℕ) → i < count → 0 < t ! i → held_rank_at A bits i ≡ no_step - rank (step T i (t ! i - 1)) i
  held-there i l h =
      let some_bits : 0 < get_or bits i 0 = omega (arith, S.same_bits i l) in
      rw (lt-ltb 0 (get_or bits i 0) some_bits, same_step S.describes i (t ! i - 1) l (omega (arith, S.within.under i (inside l))), S.same_bits i l)

  none-held : (i : ℕ) → i < count → t ! i ≤ 0 → held_rank_at A bits i ≡ no_step
  none-held i l h =
      let no_bits : get_or bits i 0 ≤ 0 = omega (arith, S.same_bits i l) in
      rw (le-ltb 0 (get_or bits i 0) no_bits)

  -- the rank of a step below its tone's limit is neither 0 nor the number that stands for no step
  small : (i b : ℕ) → i < count → b < T.limit i → (0 < rank (step T i b) i) × (rank (step T i b) i < no_step)
  unfolding no_step
  small i b l h = let range = step-in-range I S.describes i b l h in (omega arith, omega (arith, low l))

  module _ {free held : List ℕ} {r : ℕ} (R : Ranked count A bits free held) where
    pub least-free : LeastOf count free r → r ≡ rank_free T t (earliest_free T t)
    least-free L = go (earliest_free T t) refl
      where
        go : (o : Option ℕ) → earliest_free T t ≡ o → r ≡ rank_free T t o
        go none e = least-none R.free_ranks L (λ i l. none_free i l (full i l))
          where
            full : (i : ℕ) → i < count → T.limit i ≤ t ! i
            full i l =
                let none_is = rw e at (earliest_free-is T S.rising t) in
                let m : ¬ (t ! i < T.limit i) = λ h. none_is i (t ! i) (record { tone = inside l; above = omega arith; below = h }) in
                omega arith
        go (some i) e =
            least_at R.free_ranks L i l (omega (arith, here, high)) (λ j q. first j q (dec_lt (t ! j) (T.limit j)) (ℕ_discrete i j)) ∙ here
          where
            F : Free T t i (t ! i)
            F = (rw e at (earliest_free-is T S.rising t)).free

            l : i < count
            l = counted F.tone

            here : free_rank_at A bits i ≡ rank (step T i (t ! i)) i
            here = free-there i l F.below

            high : (0 < rank (step T i (t ! i)) i) × (rank (step T i (t ! i)) i < no_step)
            high = small i (t ! i) l F.below

            first : (j : ℕ) → j < count → Dec (t ! j < T.limit j) → Dec (i ≡ j) → free_rank_at A bits i ≤ free_rank_at A bits j
            first j q d (yes s) = rw s (omega arith)
            first j q (no m) (no k) = omega (arith, here, high, none_free j q (omega arith))
            first j q (yes h) (no k) =
                let later = earliest-before T S.rising t i e j (t ! j) (record { tone = inside q; above = omega arith; below = h }) (λ s. k s.0) in
                omega (arith, here, free-there j q h, before-rank T (low l) (low q) later)

    pub least-held : LeastOf count held r → no_step - r ≡ rank_held T t (latest_held T t)
    least-held L = go (latest_held T t) refl
      where
        go : (o : Option ℕ) → latest_held T t ≡ o → no_step - r ≡ rank_held T t o
        go none e = omega (arith, least-none R.held_ranks L (λ i l. none-held i l (empty i l)))
          where
            empty : (i : ℕ) → i < count → t ! i ≤ 0
            empty i l =
                let none_is = rw e at (latest_held-is T S.rising t S.within) in
                let m : ¬ (0 < t ! i) = λ h. none_is i 0 (record { tone = inside l; held = h }) in
                omega arith
        go (some i) e =
            let found = least_at R.held_ranks L i l (omega (arith, here, high)) (λ j q. first j q (dec_lt 0 (t ! j)) (ℕ_discrete i j)) in
            omega (arith, here, high)
          where
            H : Latest T t i (t ! i - 1)
            H = rw e at (latest_held-is T S.rising t S.within)

            l : i < count
            l = counted H.tone

            here : held_rank_at A bits i ≡ no_step - rank (step T i (t ! i - 1)) i
            here = held-there i l (omega (arith, H.top))

            high : (0 < rank (step T i (t ! i - 1)) i) × (rank (step T i (t ! i - 1)) i < no_step)
            high = small i (t ! i - 1) l (omega (arith, H.top, S.within.under i H.tone))

            first : (j : ℕ) → j < count → Dec (0 < t ! j) → Dec (i ≡ j) → held_rank_at A bits i ≤ held_rank_at A bits j
            first j q d (yes s) = rw s (omega arith)
            first j q (no m) (no k) = omega (arith, here, none-held j q (omega arith))
            first j q (yes h) (no k) =
                let earlier = latest-after T S.rising t S.within i e j (t ! j - 1) (record { tone = inside q; held = omega arith }) (λ s. k s.0) in
                omega (arith, here, held-there j q h, before-rank T (low q) (low l) earlier)
