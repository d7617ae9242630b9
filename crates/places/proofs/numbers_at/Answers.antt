-- `places::numbers_at` meets its contract. Assumes nothing.
use Rattle.places.proofs.numbers_at.Goals as goal

pub returns : goal.returns
returns c =
    rw (
      c.number_at.ensures.meaning,
      c.number_at-2.ensures.meaning,
      c.byte_at.ensures,
      c.number_at-3.ensures.meaning,
    )
