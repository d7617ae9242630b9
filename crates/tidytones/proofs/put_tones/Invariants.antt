-- `tidytones::put_tones` meets its contract. Between the turns the tones below `tone` are written. Assumes nothing.
use Rattle.lists.proofs.Joined.{Written}
use Rattle.tidylengths.specs.Copies.{copy_at}
use Rattle.tidytones.proofs.put_tones.Given as goal

abbrev pub invariant-loop-tone : goal.invariant-loop-tone
invariant-loop-tone l = Written (copy_at l.s l.tones) l.initial.out l.at l.tone l.out l.place
