-- `loader::guarded` meets its contract. Assumes nothing.
use Rattle.loader.proofs.Promises.{guarded-met}
use Rattle.loader.proofs.guarded.Goals as goal

pub returns : goal.returns
returns c =
    let a = c.args in
    let e = c.guarded.ensures in
    record {
      answer = e.answer;
      numbers = e.numbers;
      bytes = e.bytes;
      guards = λ l means room. guarded-met a.s.now (λ i. (c.type_inv.s i).fits) l means a.table.now _ room e.answer e.bytes;
    }
