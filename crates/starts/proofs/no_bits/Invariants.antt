-- `starts::no_bits` meets its contract. Between the turns the rests of the tones below the index are added up. Assumes nothing.
use mathlib.Core.Path.{◌≡◌}
use Rattle.steps.specs.Tones.{sum}
use Rattle.line.specs.Arrays.{rest_at}
use Rattle.starts.proofs.no_bits.Given as goal

abbrev pub invariant-loop-steps : goal.invariant-loop-steps
invariant-loop-steps l = l.power ≡ sum l.steps-index (rest_at l.tones)
