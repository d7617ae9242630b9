-- `guarded::guarded` meets its contract. Assumes nothing.
use mathlib.Core.Path.{ap, ◌∙◌}
use lib.ListN.{length}
use Rattle.std.proofs.lemmas.Result.{err_from_is_err_and}
use Rattle.sheet.specs.Reading.{accepted, reading}
use Rattle.sheet.proofs.Uses.{read-line, refused-is}
use Rattle.guarded.specs.Guarded.{guarding, plain_bits}
use Rattle.guarded.proofs.Lines.{only, guarded-numbers}
use Rattle.guarded.proofs.guarded.Goals as goal

pub load_line-requires : goal.load_line-requires
load_line-requires c =
    let x = read-line c.in_ok-header.ensures in
    record { indexed = x.index; judged = λ l e. x.means ∙ ap accepted (only x.index l e) }

pub returns-in_err-header : goal.returns-in_err-header
unfolding guarding
returns-in_err-header c =
    let p = err_from_is_err_and c.from_residual.result c.from_residual.ensures.1 in
    let refused = refused-is c.in_err-header.ensures in
    rw (p.1, p.2) (record { answer = rw refused; numbers = rw refused; bytes = rw refused })

pub returns : goal.returns
returns c =
    let a = c.args in
    let e = c.load_line.ensures in
    record {
      answer = e.answer;
      numbers = guarded-numbers _ (plain_bits (reading a.s.now)) (guarding (reading a.s.now) (length a.table.now)) e.answer;
      bytes = e.bytes;
    }
