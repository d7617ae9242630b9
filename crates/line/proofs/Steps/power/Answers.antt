-- `line::Steps::power` meets its contract. Assumes nothing.
use mathlib.Core.Path.{sym, ◌∙◌}
use native.Mathlib.Omega.{arith}
use Rattle.line.proofs.Powers.{power-none, power-some}
use Rattle.line.proofs.Steps.power.Goals as goal

pub returns-then-bits-lt1 : goal.returns-then-bits-lt1
returns-then-bits-lt1 c = let s = c.args.self in sym (power-none s.cost s.doublings s.rest c.args.bits (omega arith))

pub returns : goal.returns
returns c = let s = c.args.self in c.power_of.ensures ∙ sym (power-some s.cost s.doublings s.rest c.args.bits (omega arith))
