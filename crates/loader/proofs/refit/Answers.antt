-- `loader::refit` meets its contract. Assumes nothing.
use Rattle.loader.proofs.Promises.{refit-call}
use Rattle.loader.proofs.refit.Goals as goal

pub returns : goal.returns
returns c =
    let a = c.args in
    let w = refit-call a.s.now (λ i. (c.type_inv.s i).fits) a.table.now _ a.start.now c.refit_up_to.ensures in
    record { answer = w.0; numbers = w.1.0; bytes = w.1.1.0; demand_3 = w.1.1.1 }
