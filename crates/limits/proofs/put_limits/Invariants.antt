-- `limits::put_limits` meets its contract. Between the turns the limits of the tones below the next one are written. Assumes nothing.
use Rattle.limits.proofs.Bytes.{WritingOf}
use Rattle.limits.proofs.put_limits.Given as goal

abbrev pub invariant-loop-tone : goal.invariant-loop-tone
invariant-loop-tone l = WritingOf l.s l.fn.header l.index l.initial.out l.out l.tone
