-- `places::both_at` meets its contract. Assumes nothing.
use Rattle.places.proofs.both_at.Goals as goal

pub returns : goal.returns
returns c = rw (c.float_at.ensures, c.float_at-2.ensures)
