-- `moves::next_move` meets its contract. Assumes nothing.
use Rattle.steps.specs.Runs.{add_step}
use Rattle.moves.proofs.Named.{adds}
use Rattle.moves.proofs.next_move.Goals as goal

pub returns-in-Add : goal.returns-in-Add
unfolding add_step
returns-in-Add c = λ T t K. rw c.in-Add.is (c.take_if_fits.ensures T t (adds K))

pub returns-in-Refit : goal.returns-in-Refit
returns-in-Refit c = rw c.in-Refit.is c.refit_move.ensures
