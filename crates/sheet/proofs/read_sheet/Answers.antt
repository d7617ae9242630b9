-- `sheet::read_sheet` meets its contract: of a line the index stays, and a refusal empties it. Assumes nothing.
use mathlib.Core.Path.{sym}
use Rattle.sheet.proofs.Uses.{leaves-accepted, leaves-refused}
use Rattle.sheet.proofs.read_sheet.Goals as goal

pub returns-then-is_err : goal.returns-then-is_err
returns-then-is_err c = rw c.empty-then-is_err.ensures (leaves-refused c.read_within_budget-read.result c.read_within_budget-read.ensures (sym c.if-is_err.ensures.value))

pub returns-else-is_err : goal.returns-else-is_err
returns-else-is_err c = leaves-accepted c.read_within_budget-read.result c.read_within_budget-read.ensures (sym c.if-is_err.ensures.value)
