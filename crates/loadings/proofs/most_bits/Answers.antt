-- `loadings::most_bits` meets its contract. Assumes nothing.
use Rattle.steps.specs.Tones.{no_bits}
use Rattle.loadings.proofs.Runs.{runnable, none-stands, most-stands}
use Rattle.loadings.proofs.most_bits.Goals as goal

pub run-requires : goal.run-requires
run-requires c = let L = c.requires.loadable in runnable L (none-stands L c.no_bits-start.ensures.stands)

pub returns : goal.returns
returns c = λ T L. (most-stands L (c.run.ensures T (no_bits T) (none-stands L c.no_bits-start.ensures.stands)).stands).sums.same_bits
