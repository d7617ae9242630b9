-- `starts::from_start` meets its contract. Between the turns the tones below the index are copied, with their totals. Assumes nothing.
use lib.ListN.{length}
use Rattle.starts.proofs.Copied.{Copied}
use Rattle.starts.proofs.from_start.Given as goal

abbrev pub invariant-loop-tone : goal.invariant-loop-tone
invariant-loop-tone l = Copied l.tones l.start l.running.bits l.totals (length l.yielded)
