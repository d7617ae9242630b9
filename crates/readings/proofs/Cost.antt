-- The cost of a reading from the mantissa and exponent of its ratio; and the cost that is granted, from a number that is the same or over.
-- Assumes nothing.
use mathlib.Core.Path.{◌≡◌, sym, ap, ◌∙◌}
use mathlib.Core.Bool.{false, true, or-true}
use mathlib.Core.Logic.{inl, inr}
use Prim.Native.Nat.{ℕ, ◌*◌, ◌^◌, ◌≤◌, ◌<◌, max}
use native.Mathlib.Nat.{le_refl, le_of_lt, mul-pos, mul-le-mul}
use native.Mathlib.Omega.{arith}
use borrow.Author.Tests.{lt-ltb}
use lib.Pow.{pow_pos}
use lib.Ieee.Exact.{HasValue}
use lib.Ieee.Positive.{num, den, den_pos, value→cross}
use lib.Ieee.Scale.{finite}
use Rattle.sizes.specs.Sizes.{most_cost}
use Rattle.fractions.specs.Ceiling.{ceiling}
use Rattle.fractions.proofs.Ceiling.{ceiling-cross}
use Rattle.readings.specs.declared.Reading.{Reading}
use Rattle.readings.specs.Reading.{ratio, reading_cost, is_over, granted_cost, SameOrOver}
use Rattle.readings.proofs.Readings.{not-over, granted-is, refused-is}

-- 16 bits times 24 bits
pub product-fits : (g m : ℕ) → g < 2 ^ 16 → m < 2 ^ 24 → g * m < 2 ^ 40
product-fits g m h l = omega (arith, mul-le-mul {n₂ = 2 ^ 16} {m₂ = m} (le_of_lt h) (le_refl m))

pub cost-is : (g m e : ℕ) (r : Reading) → HasValue (ratio r) false (m * 2 ^ e) (2 ^ 149) → reading_cost g r ≡ max 1 (ceiling (g * m * 2 ^ e) (2 ^ 157))
unfolding reading_cost
cost-is g m e r h =
    ap (max 1)
    (ceiling-cross (g * num (ratio r)) (256 * den (ratio r)) (g * m * 2 ^ e) (2 ^ 157) (mul-pos (omega arith) (den_pos (ratio r))) (pow_pos 157)
    (cross (num (ratio r)) (2 ^ 149) (2 ^ e) (den (ratio r)) (value→cross (ratio r) (m * 2 ^ e) (2 ^ 149) h)))
  where
    cross : (n p v d : ℕ) → n * p ≡ m * v * d → g * n * (256 * p) ≡ g * m * v * (256 * d)
    cross n p v d q = omega (arith, ap (λ k. g * k) q)

-- ---- the cost that is granted: of an infinite ratio, and from a number v that is the ceiling w, or over the largest cost with it

module _ (g : ℕ) (r : Reading) where
  pub infinite : finite (ratio r) ≡ false → 0 ≡ granted_cost g r
  unfolding is_over
  infinite f = sym (refused-is g r (rw f))

  module _ (v w : ℕ) (S : SameOrOver v w) (is : reading_cost g r ≡ max 1 w) where
    pub over : most_cost < v → 0 ≡ granted_cost g r
    unfolding is_over
    over h = sym (refused-is g r (simp (lt-ltb most_cost (reading_cost g r) (high S), or-true)))
      where
        high : SameOrOver v w → most_cost < reading_cost g r
        high (inl e) = omega (arith, is)
        high (inr b) = omega (arith, is)

    pub answered : finite (ratio r) ≡ true → v ≤ most_cost → max 1 v ≡ granted_cost g r
    answered f h = same S ∙ sym (granted-is g r (not-over g r f (omega (arith, same S))))
      where
        same : SameOrOver v w → max 1 v ≡ reading_cost g r
        same (inl e) = rw e (sym is)
        same (inr b) = absurd (omega arith)
