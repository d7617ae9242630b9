-- What is known of a reading: a usable float and its bits say the same, and which cost is granted.
-- Assumes nothing.
use mathlib.Core.Path.{◌≡◌, refl, sym, ap, ◌∙◌}
use mathlib.Core.Bool.{Bool, true, false, not, ◌||◌, cond, true≢false}
use Prim.Native.Nat.{ℕ, ◌^◌, ◌≤◌, ◌<◌}
use native.Mathlib.Omega.{arith}
use borrow.Author.Tests.{le-ltb, ltb-false}
use lib.Dec.{T, ltb}
use lib.Ieee.{Float, binary32, is_nan, of_bits, to_bits}
use lib.Ieee.Bits.{is_true, of_bits-to_bits, to_bits-of_bits, to_bits-lt, of_bits-fits}
use lib.Ieee.Positive.{positive}
use lib.Ieee.Scale.{finite}
use Rattle.sizes.specs.Sizes.{most_cost}
use Rattle.readings.specs.declared.Reading.{Reading}
use Rattle.readings.specs.Reading.{is_usable, float_of, FloatInRange, ratio, reading_cost, is_over, granted_cost}
use Rattle.readings.proofs.Signs.{not-nan, positive-clear}

-- ---- from bits to the float, and back

pub float_is : (bits : ℕ) → is_usable bits ≡ true → float_of bits ≡ of_bits binary32 bits
unfolding float_of
float_is bits u = rw u

pub usable-float : (bits : ℕ) → is_usable bits ≡ true → FloatInRange (float_of bits)
usable-float bits u = rw (float_is bits u) (record { above_zero = rw u tt; held = of_bits-fits binary32 bits })

-- a float in range is that of usable bits: the others are read as 0
pub in-range-usable : (bits : ℕ) → FloatInRange (float_of bits) → is_usable bits ≡ true
unfolding float_of of_bits
in-range-usable bits = by (is_usable bits)
  where
    by : (t : Bool) → FloatInRange (cond t (of_bits binary32 bits) (of_bits binary32 0)) → t ≡ true
    by true R = refl
    by false R = absurd R.above_zero

pub usable-not-nan : (bits : ℕ) → is_usable bits ≡ true → T (not (is_nan (of_bits binary32 bits)))
usable-not-nan bits u = let x = of_bits binary32 bits in not-nan x (positive-clear x (rw u tt))

pub bits_back : (bits : ℕ) → is_usable bits ≡ true → bits < 2 ^ 32 → to_bits binary32 (float_of bits) ≡ bits
bits_back bits u h = rw (float_is bits u) (to_bits-of_bits binary32 bits h (usable-not-nan bits u))

pub back-usable : (x : Float) → FloatInRange x → is_usable (to_bits binary32 x) ≡ true
back-usable x R = ap positive (of_bits-to_bits binary32 x R.held) ∙ is_true (positive x) R.above_zero

pub back_fits : (x : Float) → FloatInRange x → to_bits binary32 x < 2 ^ 32
back_fits x R = to_bits-lt binary32 x R.held

pub float_back : (x : Float) → FloatInRange x → float_of (to_bits binary32 x) ≡ x
float_back x R = float_is (to_bits binary32 x) (back-usable x R) ∙ of_bits-to_bits binary32 x R.held

-- ---- the cost that is granted

module _ (g : ℕ) (r : Reading) where
  pub cost-low : 1 ≤ reading_cost g r
  unfolding reading_cost
  cost-low = omega arith

  pub granted : is_over g r ≡ false → (finite (ratio r) ≡ true) × (reading_cost g r ≤ most_cost)
  unfolding is_over
  granted e = let h = neither (finite (ratio r)) (ltb most_cost (reading_cost g r)) e in (h.0, ltb-false most_cost (reading_cost g r) h.1)
    where
      neither : (f t : Bool) → (not f || t) ≡ false → (f ≡ true) × (t ≡ false)
      neither true t e = (refl, e)
      neither false t e = absurd (true≢false e)

  pub not-over : finite (ratio r) ≡ true → reading_cost g r ≤ most_cost → is_over g r ≡ false
  unfolding is_over
  not-over f h = rw (f, le-ltb most_cost (reading_cost g r) h)

  pub granted-is : is_over g r ≡ false → granted_cost g r ≡ reading_cost g r
  unfolding granted_cost
  granted-is e = rw e

  pub refused-is : is_over g r ≡ true → granted_cost g r ≡ 0
  unfolding granted_cost
  refused-is e = rw e

  -- a cost of 0 tells that it is not
  pub over-is : ltb (granted_cost g r) 1 ≡ is_over g r
  over-is = by (is_over g r) refl
    where
      by : (t : Bool) → is_over g r ≡ t → ltb (granted_cost g r) 1 ≡ is_over g r
      by true e = rw (refused-is e, e)
      by false e = le-ltb (granted_cost g r) 1 (omega (arith, granted-is e, cost-low)) ∙ sym e
