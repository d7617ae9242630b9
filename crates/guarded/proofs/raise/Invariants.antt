-- `guarded::raise` meets its contract. Assumes nothing.
use Rattle.guarded.proofs.Raising.{Raising}
use Rattle.guarded.proofs.raise.Given as goal

abbrev pub invariant-loop-tone : goal.invariant-loop-tone
invariant-loop-tone l = Raising l.s l.fn.header l.index l.tones l.tone
