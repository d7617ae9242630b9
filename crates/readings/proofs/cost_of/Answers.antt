-- `readings::cost_of` meets its contract. Assumes nothing.
use mathlib.Core.Path.{◌≡◌, ◌∙◌}
use Prim.Native.Nat.{◌*◌, ◌^◌, ◌<◌, max}
use native.Mathlib.Omega.{arith}
use borrow.Author.Tests.{lt-ltb, le-ltb}
use lib.Dec.{ltb}
use lib.Ieee.Scale.{finite}
use Rattle.fractions.specs.Ceiling.{ceiling}
use Rattle.readings.specs.Reading.{ratio, reading_cost, granted_cost}
use Rattle.readings.proofs.Ratio.{ratio-back, ratio_finite}
use Rattle.readings.proofs.Cost.{product-fits, cost-is, infinite, over, answered}
use Rattle.readings.proofs.cost_of.Goals.{After-exact_of-exact, After-ratio_bits-bits, Else-cost}
use Rattle.readings.proofs.cost_of.Goals as goal

-- the bits say whether the ratio is finite
finite-is : (c : After-ratio_bits-bits) → finite (ratio c.args.reading) ≡ ltb c.ratio_bits-bits.result 0x7f80_0000
finite-is c = rw c.ratio_bits-bits.ensures (ratio_finite c.args.reading c.requires)

-- the product fits 40 bits
product : (c : After-exact_of-exact) → c.args.gap * c.exact_of-exact.result.mantissa < 2 ^ 40
product c = product-fits _ _ c.ranges.gap.fits c.exact_of-exact.ensures.range.0

-- the cost is that of mantissa and exponent
costs_agree : (c : After-exact_of-exact) → let a = c.args in
    reading_cost a.gap a.reading ≡ max 1 (ceiling (a.gap * c.exact_of-exact.result.mantissa * 2 ^ c.exact_of-exact.result.exponent) (2 ^ 157))
costs_agree c =
    let a = c in
    cost-is a.args.gap _ _ a.args.reading
    (rw (c.ratio_bits-bits.ensures, ratio-back a.args.reading a.requires) at c.exact_of-exact.ensures.value)

-- what is not over the largest cost is answered, at least 1
answer : (c : Else-cost) → let a = c.args in
    reading_cost a.gap a.reading ≡ max 1 (ceiling (a.gap * c.exact_of-exact.result.mantissa * 2 ^ c.exact_of-exact.result.exponent) (2 ^ 157))
    → finite (ratio a.reading) ≡ ltb c.ratio_bits-bits.result 0x7f80_0000
    → max 1 c.rounded_up-cost.result ≡ granted_cost a.gap a.reading
answer c agree is =
    answered _ _ _ _ c.rounded_up-cost.ensures agree (is ∙ lt-ltb _ _ c.if-bits-ge-INFINITY.false) (omega arith)

pub returns-then-bits-ge-INFINITY : goal.returns-then-bits-ge-INFINITY
returns-then-bits-ge-INFINITY c = infinite _ _ (finite-is (goal.at.returns-then-bits-ge-INFINITY c).After-ratio_bits-bits ∙ le-ltb _ _ c.if-bits-ge-INFINITY.true)

pub overflow_mul-product : goal.overflow_mul-product
overflow_mul-product c = record { fits = omega (arith, product (goal.at.overflow_mul-product c).After-exact_of-exact) }

pub rounded_up-cost-requires : goal.rounded_up-cost-requires
rounded_up-cost-requires c = record {
  product_bound = product (goal.at.rounded_up-cost-requires c).After-exact_of-exact;
  exponent_bound = c.exact_of-exact.ensures.range.1;
}

pub returns-then-cost : goal.returns-then-cost
returns-then-cost c = over _ _ _ _ c.rounded_up-cost.ensures (costs_agree (goal.at.returns-then-cost c).After-exact_of-exact) (omega arith)

pub returns-then-cost-lt1 : goal.returns-then-cost-lt1
returns-then-cost-lt1 c = let at = goal.at.returns-then-cost-lt1 c in omega (arith, answer at.Else-cost (costs_agree at.After-exact_of-exact) (finite-is at.After-ratio_bits-bits))

pub returns : goal.returns
returns c = let at = goal.at.returns c in omega (arith, answer at.Else-cost (costs_agree at.After-exact_of-exact) (finite-is at.After-ratio_bits-bits))
