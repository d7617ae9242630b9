-- `tidy::gap_bytes` meets its contract. Assumes nothing.
use mathlib.Core.Path.{sym}
use native.Mathlib.Omega.{arith}
use Rattle.tidyform.proofs.Length.{length-parts, length-tenths}
use Rattle.tidy.proofs.gap_bytes.Goals as goal

pub returns-in-Parts : goal.returns-in-Parts
returns-in-Parts c = rw c.in-Parts.is (sym (length-parts _), omega arith)

pub returns-in-Tenths : goal.returns-in-Tenths
returns-in-Tenths c = rw c.in-Tenths.is (sym (length-tenths _), omega arith)
