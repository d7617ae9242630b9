-- `places::levels_at` meets its contract. Assumes nothing.
use Rattle.places.proofs.levels_at.Goals as goal

pub returns : goal.returns
returns c = rw (c.both_at.ensures, c.byte_at.ensures, c.number_at.ensures.meaning)
