-- The readings of the line analyser: which floats a sheet may have, the ratio of a reading, and its cost. Document 02, W5.
-- Assumes nothing.
use Rattle.std.specs.Prelude.{Bool, true, not, ◌||◌, cond, ◌⊎◌, ◌≡◌, ℕ, ◌*◌, ◌<◌, max, T, ltb, Float}
use Rattle.std.specs.Float.{binary32}
use Rattle.std.specs.Float.Ieee.{fits, of_bits, div}
use Rattle.std.specs.Float.Ieee.Positive.{positive, num, den}
use Rattle.std.specs.Float.Ieee.Scale.{finite}
use Rattle.sizes.specs.Sizes.{most_cost}
use Rattle.gaps.specs.Gap.{gap_unit}
use Rattle.fractions.specs.Ceiling.{ceiling}
use Rattle.readings.specs.declared.Reading.{Reading}
use Rattle.readings.specs.declared.Reading.TheVariants.{Both, Ratio}

-- 12: 'a float is not finite or not above zero'; this is the test that it is, of the float's 32 bits
abbrev pub is_usable : (bits : ℕ) → Bool
is_usable bits = positive (of_bits binary32 bits)

-- '32-bit IEEE floats': the float of 32 bits; 0 where 12 refuses it
unfoldable pub float_of : (bits : ℕ) → Float
float_of bits = cond (is_usable bits) (of_bits binary32 bits) (of_bits binary32 0)

-- a 32-bit float that is finite and above zero
pub record FloatInRange (x : Float) : Type 0 where
  pub above_zero : T (positive x)
  pub held : T (fits binary32 x)

-- a reading whose floats are
abbrev pub Usable : Reading → Type 0
Usable (Both l) = FloatInRange l.noise × FloatInRange l.gain
Usable (Ratio x) = FloatInRange x

-- 'For 09 the ratio is the one float quotient, rounded once, to nearest.'
abbrev pub ratio : Reading → Float
ratio (Both l) = div binary32 l.noise l.gain
ratio (Ratio x) = x

-- 'the larger of 1 and the smallest whole number not below g × ratio / 256, the float taken at its exact value'
unfoldable pub reading_cost : (g : ℕ) → Reading → ℕ
reading_cost g r = max 1 (ceiling (g * num (ratio r)) (gap_unit * den (ratio r)))

-- 13: 'the quotient is infinite or the cost is over 16,776,705'
unfoldable pub is_over : (g : ℕ) → Reading → Bool
unfolding reading_cost
is_over g r = not (finite (ratio r)) || ltb most_cost (reading_cost g r)

-- a reading that neither 12 nor the first half of 13 refuses: its floats are usable, and its ratio is finite
pub record ReadingInRange (r : Reading) : Type 0 where
  pub usable : Usable r
  pub ratio_finite : finite (ratio r) ≡ true

-- the cost as the code answers it: 0 where 13 refuses the reading
unfoldable pub granted_cost : (g : ℕ) → Reading → ℕ
unfolding is_over
granted_cost g r = cond (is_over g r) 0 (reading_cost g r)

-- the same number, or both over the largest cost
abbrev pub SameOrOver : (v w : ℕ) → Type 0
SameOrOver v w = (v ≡ w) ⊎ ((most_cost < v) × (most_cost < w))
