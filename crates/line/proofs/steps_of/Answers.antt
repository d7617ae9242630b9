-- `line::steps_of` meets its contract. Assumes nothing.
use Rattle.line.proofs.steps_of.Goals as goal

pub returns : goal.returns
returns c =
    let a = c in
    simp (a.limit_of.ensures.limit, c.doublings.ensures, a.cost-w.ensures.meaning)
