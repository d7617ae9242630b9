-- `places::ratio_at` meets its contract. Assumes nothing.
use Rattle.places.proofs.ratio_at.Goals as goal

pub returns : goal.returns
returns c = rw (c.float_at.ensures, c.byte_at.ensures, c.number_at.ensures.meaning)
