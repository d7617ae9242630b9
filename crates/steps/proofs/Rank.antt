-- The rank of a step: how many steps of the line stand before it.
-- Assumes nothing.
use Prim.Native.Nat.{ℕ, zero, suc, ◌+◌, ◌≤◌, ◌<◌}
use native.Mathlib.Decide.{dec_lt}
use native.Mathlib.Omega.{arith}
use Rattle.steps.specs.Tones.{Tones, sum, sum_of_limits}
use Rattle.steps.proofs.Sums.{sum-le, sum-gap}
use Rattle.steps.proofs.Order.{place}

one : {A : Type 0} → Dec A → ℕ
one (yes a) = 1
one (no m) = 0

one-le : {A : Type 0} (d : Dec A) → one d ≤ 1
unfolding one
one-le (yes a) = omega arith
one-le (no m) = omega arith

one-mono : {A B : Type 0} (d : Dec A) (e : Dec B) → (A → B) → one d ≤ one e
unfolding one
one-mono (yes a) (yes b) h = omega arith
one-mono (yes a) (no m) h = absurd (m (h a))
one-mono (no m) e h = omega arith

one-gap : {A B : Type 0} (d : Dec A) (e : Dec B) → ¬ A → B → one d + 1 ≤ one e
unfolding one
one-gap (yes a) e n b = absurd (n a)
one-gap (no m) (yes b) n x = omega arith
one-gap (no m) (no k) n x = absurd (k x)

sum_ones : (n : ℕ) (f : ℕ → ℕ) → ((i : ℕ) → f i ≤ 1) → sum n f ≤ n
unfolding sum
sum_ones zero f h = omega arith
sum_ones (suc n) f h = omega (arith, sum_ones n f h, h n)

module _ (T : Tones) where
  -- the steps of tone i, or of the line, whose place is below κ
  tally : ℕ → ℕ → ℕ
  tally κ i = sum (T.limit i) (λ b. one (dec_lt (place T i b) κ))

  count : ℕ → ℕ
  count κ = sum T.count (tally κ)

  tally-le : (κ ν i : ℕ) → κ ≤ ν → tally κ i ≤ tally ν i
  unfolding tally
  tally-le κ ν i h = sum-le (T.limit i) _ _ (λ b l. one-mono (dec_lt (place T i b) κ) (dec_lt (place T i b) ν) (λ q. omega arith))

  count-gap : (κ ν i b : ℕ) → i < T.count → b < T.limit i → κ ≤ place T i b → place T i b < ν → count κ + 1 ≤ count ν
  unfolding count tally
  count-gap κ ν i b il bl h q =
      sum-gap T.count (tally κ) (tally ν) i 1 il (λ j jl. tally-le κ ν j (omega arith))
      (sum-gap (T.limit i) _ _ b 1 bl (λ c l. one-mono (dec_lt (place T i c) κ) (dec_lt (place T i c) ν) (λ x. omega arith))
      (one-gap (dec_lt (place T i b) κ) (dec_lt (place T i b) ν) (omega arith) q))

  count_under : (κ : ℕ) → count κ ≤ sum_of_limits T
  unfolding count tally
  count_under κ = sum-le T.count (tally κ) T.limit (λ i il. sum_ones (T.limit i) _ (λ b. one-le (dec_lt (place T i b) κ)))

  pub rank : ℕ → ℕ → ℕ
  rank i b = count (place T i b)

  pub rank_lt : (i b j c : ℕ) → i < T.count → b < T.limit i → place T i b < place T j c → rank i b < rank j c
  unfolding rank
  rank_lt i b j c il bl h = omega (arith, count-gap (place T i b) (place T j c) i b il bl (omega arith) h)

  pub rank-under : (i b : ℕ) → i < T.count → b < T.limit i → rank i b < sum_of_limits T
  unfolding rank
  rank-under i b il bl = omega (arith, count-gap (place T i b) (suc (place T i b)) i b il bl (omega arith) (omega arith), count_under (suc (place T i b)))
