-- `rows::tenths_command` meets its contract. Assumes nothing.
use mathlib.Core.Path.{sym, ap, ◌∙◌}
use native.Mathlib.Omega.{arith}
use Rattle.std.specs.Prelude.{Err}
use Rattle.bigendian.proofs.Numbers.{number-one}
use Rattle.rows.proofs.Judging.{above, in_range, one-operand}
use Rattle.rows.proofs.tenths_command.Goals as goal

pub returns-then-tenths-gt-MOST_TENTHS : goal.returns-then-tenths-gt-MOST_TENTHS
returns-then-tenths-gt-MOST_TENTHS c known =
    ap Err c.out_of_range.ensures ∙ sym (one-operand _ known _ _ _ _ _ _ _ ∙ above _ _ _ _ (sym (number-one _ _)) (omega arith) (omega arith))

pub returns : goal.returns
returns c known =
    sym (one-operand _ known _ _ _ _ _ _ _ ∙ in_range _ _ _ _ (sym (number-one _ _)) (omega arith) (omega arith) ∙ rw number-one)
