-- `line::limit_of` meets its contract. Assumes nothing.
use Rattle.line.proofs.Tries.{Between}
use Rattle.line.proofs.limit_of.Given as goal

abbrev pub invariant-loop-bits : goal.invariant-loop-bits
invariant-loop-bits l = Between l.cost l.bounds l.shift l.bits l.tries l.power
