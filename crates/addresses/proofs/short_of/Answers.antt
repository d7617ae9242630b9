-- `addresses::short_of` meets its contract. Assumes nothing.
use mathlib.Core.Path.{sym}
use native.Mathlib.Omega.{arith}
use Rattle.addresses.proofs.Widths.{short-is, twin-is}
use Rattle.addresses.proofs.short_of.Goals as goal

pub returns-then-code-lt-TWIN : goal.returns-then-code-lt-TWIN
returns-then-code-lt-TWIN c = sym (short-is _ c.if-code-lt-TWIN.true)

pub returns : goal.returns
returns c = omega (arith, twin-is _ c.if-code-lt-TWIN.false)
