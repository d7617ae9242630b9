-- `line::reading_takes` meets its contract. Assumes nothing.
use mathlib.Core.Path.{sym}
use borrow.Author.Tests.{lt-ltb, le-ltb}
use Rattle.line.proofs.reading_takes.Goals as goal

pub returns-then-rest-cost_of : goal.returns-then-rest-cost_of
returns-then-rest-cost_of c = rw (sym c.cost_of.ensures, lt-ltb _ _ c.if-rest-cost_of.true)

pub returns-else-rest-cost_of : goal.returns-else-rest-cost_of
returns-else-rest-cost_of c = rw (sym c.cost_of.ensures, le-ltb _ _ c.if-rest-cost_of.false)
