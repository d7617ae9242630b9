-- `noises::high_at` meets its contract. Assumes nothing.
use mathlib.Core.Path.{◌∙◌}
use Rattle.noises.proofs.high_at.Goals as goal

pub returns : goal.returns
returns c = c.number_at.ensures.meaning ∙ rw c.carried_at-carried.ensures
