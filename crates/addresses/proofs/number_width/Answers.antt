-- `addresses::number_width` meets its contract. Assumes nothing.
use mathlib.Core.Path.{sym}
use native.Mathlib.Omega.{arith}
use Rattle.addresses.proofs.Widths.{short-width, twin-width}
use Rattle.addresses.proofs.number_width.Goals as goal

pub returns-then-code-lt-TWIN : goal.returns-then-code-lt-TWIN
returns-then-code-lt-TWIN c = (sym (short-width _ c.if-code-lt-TWIN.true), omega arith)

pub returns : goal.returns
returns c = (sym (twin-width _ c.if-code-lt-TWIN.false), omega arith)
