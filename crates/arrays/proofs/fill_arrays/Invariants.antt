-- `arrays::fill_arrays` meets its contract. Between the turns the array holds the tones below the next one. Assumes nothing.
use Rattle.arrays.proofs.Filling.{FillingOf}
use Rattle.arrays.proofs.fill_arrays.Given as goal

abbrev pub invariant-loop-tone : goal.invariant-loop-tone
invariant-loop-tone l = FillingOf l.s l.fn.header l.index l.tones l.tone
