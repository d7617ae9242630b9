-- `addresses::addressed` meets its contract. Assumes nothing.
use mathlib.Core.Path.{sym}
use Rattle.addresses.proofs.Widths.{none-addressed}
use Rattle.addresses.proofs.addressed.Goals as goal

pub returns-then-s-place : goal.returns-then-s-place
returns-then-s-place c = sym (none-addressed _ _ c.if-s-place.true)
