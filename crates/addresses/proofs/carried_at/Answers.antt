-- `addresses::carried_at` meets its contract. Assumes nothing.
use Rattle.addresses.proofs.carried_at.Goals as goal

pub returns : goal.returns
returns c = rw (c.number_width.ensures.0, c.byte_at.ensures)
