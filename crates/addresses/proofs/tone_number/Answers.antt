-- `addresses::tone_number` meets its contract. Assumes nothing.
use mathlib.Core.Path.{sym, ◌∙◌}
use native.Mathlib.Omega.{arith}
use Rattle.bigendian.proofs.Numbers.{number-one}
use Rattle.addresses.proofs.Widths.{short-width, twin-width, number-two}
use Rattle.addresses.proofs.tone_number.Goals as goal

pub returns-then-code-lt-TWIN : goal.returns-then-code-lt-TWIN
returns-then-code-lt-TWIN c = rw (short-width _ c.if-code-lt-TWIN.true) (c.byte_at-first.ensures ∙ sym (number-one _ _))

pub returns : goal.returns
returns c = rw (twin-width _ c.if-code-lt-TWIN.false, c.byte_at-first.ensures, c.byte_at.ensures) (number-two _ _ _ (omega arith))
