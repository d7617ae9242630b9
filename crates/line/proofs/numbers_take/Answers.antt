-- `line::numbers_take` meets its contract. Assumes nothing.
use Prim.Native.Nat.{◌*◌, ◌^◌, ◌≤◌}
use native.Mathlib.Nat.{mul-le-mul}
use native.Mathlib.Omega.{arith}
use borrow.Author.Tests.{lt-ltb, le-ltb}
use Rattle.line.proofs.Costs.{product_high, below_cost, above-cost}
use Rattle.line.proofs.numbers_take.Goals as goal

pub overflow_mul-top : goal.overflow_mul-top
overflow_mul-top c = let a = c in record { fits = omega (arith, product_high a.args.gap a.args.n a.requires (omega arith)) }

pub overflow_mul-rest : goal.overflow_mul-rest
overflow_mul-rest c =
    let a = c in
    let low : a.args.rest ≤ 2 ^ 32 = omega arith in
    let high : 256 * a.args.n.gain ≤ 2 ^ 24 = omega (arith, a.requires.gain_high) in
    record { fits = omega (arith, mul-le-mul low high) }

pub returns-then-rest-bottom : goal.returns-then-rest-bottom
returns-then-rest-bottom c =
    let a = c in
    rw (lt-ltb _ _ (below_cost a.args.gap a.args.n a.requires a.args.rest c.if-rest-bottom.true))

pub returns-else-rest-bottom : goal.returns-else-rest-bottom
returns-else-rest-bottom c =
    let a = c in
    rw (le-ltb _ _ (above-cost a.args.gap a.args.n a.requires a.args.rest c.if-rest-bottom.false), le-ltb _ _ c.if-rest-bottom.false)
