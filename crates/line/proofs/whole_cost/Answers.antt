-- `line::whole_cost` meets its contract: the ceiling is at most the largest cost, which fits 32 bits. Assumes nothing.
use mathlib.Core.Path.{refl}
use native.Mathlib.Omega.{arith}
use Rattle.line.specs.Tone.{whole_cost}
use Rattle.line.proofs.Costs.{product_high, whole-high}
use Rattle.line.proofs.whole_cost.Goals as goal

pub overflow_mul-top : goal.overflow_mul-top
overflow_mul-top c = let a = c in record { fits = omega (arith, product_high a.args.gap a.args.n a.requires (omega arith)) }

pub overflow_add-result : goal.overflow_add-result
overflow_add-result c =
    let a = c in
    record { fits = omega (arith, product_high a.args.gap a.args.n a.requires (omega arith), a.requires.gain_high) }

pub overflow_cast-result : goal.overflow_cast-result
unfolding whole_cost
overflow_cast-result c = let a = c in omega (arith, whole-high a.args.gap a.args.n a.requires (omega arith))

pub returns : goal.returns
unfolding whole_cost
returns c = refl
