-- The cost of whole numbers is what document 01 calls it, and in its range; the cost of a reading in range is granted.
-- Assumes nothing.
use mathlib.Core.Path.{◌≡◌}
use Prim.Native.Nat.{ℕ, zero, suc, ◌*◌, ◌≤◌, ◌<◌}
use native.Mathlib.Nat.{mul-le-mul, mul-le-mul_right, le_trans, lt_of_not-le, not-le_of_lt}
use native.Mathlib.Omega.{arith}
use Rattle.sizes.specs.Sizes.{most_cost}
use Rattle.gaps.specs.Gap.{gap_unit, most_gap, PartsInRange}
use Rattle.fractions.proofs.Ceiling.{Ceiling, ceiling-is}
use Rattle.readings.specs.declared.Reading.{Reading}
use Rattle.readings.specs.Reading.{reading_cost, ReadingInRange, granted_cost}
use Rattle.readings.proofs.Readings.{not-over, granted-is}
use Rattle.line.specs.declared.Numbers.{Numbers}
use Rattle.line.specs.Tone.{NumbersInRange, Cost, whole_cost}

module _ (g : ℕ) (n : Numbers) (I : NumbersInRange n) where
  -- 'the smallest whole number not below g × noise / (256 × gain)'
  pub whole_is : Ceiling (g * n.noise) (gap_unit * n.gain) (whole_cost g n)
  unfolding whole_cost
  whole_is = ceiling-is (g * n.noise) (gap_unit * n.gain) (omega (arith, I.gain_low))

  -- a whole number is below it where it is below the fraction, and else not
  pub below_cost : (rest : ℕ) → rest * (gap_unit * n.gain) < g * n.noise → rest < whole_cost g n
  below_cost rest h = lt_of_not-le (λ l. not-le_of_lt h (le_trans whole_is.enough (mul-le-mul_right (gap_unit * n.gain) l)))

  pub above-cost : (rest : ℕ) → g * n.noise ≤ rest * (gap_unit * n.gain) → whole_cost g n ≤ rest
  above-cost rest h = whole_is.least rest h

  module _ (high : g ≤ most_gap) where
    pub product_high : g * n.noise ≤ 4294836225
    product_high = omega (arith, mul-le-mul {n₂ = 65535} {m₂ = 65535} high I.noise_high)

    pub whole-high : whole_cost g n ≤ most_cost
    whole-high = whole_is.least most_cost (omega (arith, product_high, I.gain_low))

  product-low : 1 ≤ g → 1 ≤ g * n.noise
  product-low low = omega (arith, mul-le-mul {n₁ = 1} {m₁ = 1} {n₂ = g} low I.noise_low)

  -- 'from 1 to 16,776,705'
  pub whole-range : PartsInRange g → Cost (whole_cost g n)
  whole-range G = record { low = low (whole_cost g n) whole_is.enough; high = whole-high G.high }
    where
      low : (w : ℕ) → g * n.noise ≤ w * (gap_unit * n.gain) → 1 ≤ w
      low zero h = omega (arith, product-low (omega (arith, G.low)))
      low (suc w) h = omega arith

pub reading-granted : (g : ℕ) (r : Reading) → ReadingInRange r → Cost (reading_cost g r) → granted_cost g r ≡ reading_cost g r
reading-granted g r I C = granted-is g r (not-over g r I.ratio_finite C.high)
