-- `readings::rounded_up` meets its contract. Assumes nothing.
use mathlib.Core.Path.{◌≡◌}
use mathlib.Core.Logic.{inl}
use Prim.Native.Nat.{◌*◌, ◌%◌, ◌^◌}
use native.Mathlib.Omega.{arith}
use lib.Pow.{shl_exact}
use Rattle.readings.proofs.Shifts.{left_is, right_is, unit-is}
use Rattle.readings.proofs.rounded_up.Goals.{After-min-shift}
use Rattle.readings.proofs.rounded_up.Goals as goal

pub returns-then-exponent-ge157 : goal.returns-then-exponent-ge157
returns-then-exponent-ge157 c =
    let a = c in
    rw (shl_exact {a = a.args.product} 40 c.min.result 64 a.requires.product_bound (omega arith), c.min.ensures)
    (left_is a.args.product a.args.exponent c.if-exponent-ge157.true)

-- the unit is a power of two
unit : (c : After-min-shift) → (1 * 2 ^ c.min-shift.result) % 2 ^ 64 ≡ 2 ^ c.min-shift.result
unit c = unit-is c.min-shift.result (omega arith)

pub returns : goal.returns
returns c =
    let a = c in
    inl (rw (unit (goal.at.returns c).After-min-shift, c.min-shift.ensures) (right_is a.args.product a.args.exponent a.requires.product_bound (omega arith)))
