-- `budgetlist::budget_at` meets its contract. Assumes nothing.
use mathlib.Core.Path.{◌∙◌}
use native.Mathlib.Omega.{arith}
use Rattle.bigendian.proofs.Numbers.{number-there}
use Rattle.budgetlist.proofs.budget_at.Goals as goal

pub returns : goal.returns
returns c = c.number_at.ensures.meaning ∙ number-there _ _ _ (omega arith) (omega (arith, c.requires))
