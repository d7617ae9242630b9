-- `wholeruns::go_on` meets its contract. Between the steps what is left of the run is the rest of the whole one. Assumes nothing.
use lib.ListN.{length}
use Rattle.wholeruns.proofs.Along.{Along}
use Rattle.wholeruns.proofs.go_on.Given as goal

abbrev pub invariant-loop-moves : goal.invariant-loop-moves
invariant-loop-moves l =
    Along (length l.tones) l.tones l.rule l.most l.budget l.initial.now.running l.now.running l.moves l.ranks.free l.ranks.held
