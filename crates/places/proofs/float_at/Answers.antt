-- `places::float_at` meets its contract. Assumes nothing.
use Rattle.places.proofs.float_at.Goals as goal

pub returns : goal.returns
returns c = rw c.number_at-bits.ensures.meaning at c.float_of.ensures
