-- `search::least` meets its contract: between its turns it knows the least of the ranks passed, eight for each turn. Assumes nothing.
use Prim.Native.Nat.{◌-◌}
use Rattle.search.proofs.Parts.{Passed}
use Rattle.search.proofs.least.Given as goal

abbrev pub invariant-loop-i : goal.invariant-loop-i
invariant-loop-i l = Passed l.ranks l.least l.i

abbrev pub decreases-loop-i : goal.decreases-loop-i
decreases-loop-i l = l.count - l.i
