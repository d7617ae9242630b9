-- Numbers within parts of one length that stand one after the other.
-- Assumes nothing.
use mathlib.Core.List.{List, ◌++◌}
use mathlib.Core.Path.{◌≡◌, sym, ap, ◌∙◌}
use Prim.Native.Nat.{ℕ, zero, suc, ◌+◌, ◌*◌, ◌≤◌, ◌<◌}
use native.Mathlib.Decide.{dec_lt}
use native.Mathlib.Omega.{arith}
use lib.ListN.{length}
use Rattle.lists.specs.Joined.{joined_below}
use Rattle.lists.proofs.Joined.{length-even, length-part-le}
use Rattle.bigendian.specs.Number.{number}
use Rattle.bigendian.proofs.Numbers.{number-front, number-back}

module _ (part : ℕ → List ℕ) (width : ℕ) (e : (i : ℕ) → length (part i) ≡ width) where
  -- such a number is read from the whole
  pub number-in-part : (n i k w at : ℕ) → i < n → k + w ≤ width → at ≡ width * i + k → number (joined_below part n) at w ≡ number (part i) k w
  unfolding joined_below
  number-in-part zero i k w at l inside is = absurd (omega arith)
  number-in-part (suc n) i k w at l inside is = go (λ h. number-in-part n i k w at h inside is) (dec_lt i n)
    where
      go : (i < n → number (joined_below part n) at w ≡ number (part i) k w) → Dec (i < n) → number (joined_below part n ++ part n) at w ≡ number (part i) k w
      go ih (yes h) = number-front (joined_below part n) (part n) at w (omega (arith, length-part-le part h, length-even part width e i, e i)) ∙ ih h
      go ih (no m) =
          let last : i ≡ n = omega arith in
          number-back (joined_below part n) (part n) k w at (omega (arith, length-even part width e n, ap (λ (j : ℕ). width * j) last))
          ∙ ap (λ (j : ℕ). number (part j) k w) (sym last)
