-- `loader::tidy` meets its contract. Assumes nothing.
use Rattle.loader.proofs.Promises.{tidy-call}
use Rattle.loader.proofs.tidy.Goals as goal

pub returns : goal.returns
returns c =
    let a = c.args in
    let e = c.tidy.ensures in
    record { answer = e.answer; numbers = e.numbers; bytes = e.bytes; tidy_form = tidy-call a.s.now (λ i. (c.type_inv.s i).fits) a.out.now e.bytes }
