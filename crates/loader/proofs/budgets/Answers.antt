-- `loader::budgets` meets its contract. Assumes nothing.
use Rattle.loader.proofs.Totals.{budgets-on}
use Rattle.loader.proofs.budgets.Goals as goal

pub returns : goal.returns
returns c =
    let e = c.budgets.ensures in
    let a = c.args in
    record { answer = e.answer; numbers = e.numbers; bytes = e.bytes; each = budgets-on a.s.now (λ i. (c.type_inv.s i).fits) a.list.now a.out.now e.bytes }
