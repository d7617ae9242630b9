-- `budgets::budgets` meets its contract. Assumes nothing.
use mathlib.Core.Path.{refl, ap}
use Rattle.std.proofs.lemmas.Result.{err_from_is_err_and}
use Rattle.sheet.specs.Index.{Indexed}
use Rattle.sheet.proofs.Uses.{said-line, refused-by, size_is, size_high}
use Rattle.sheet.proofs.Writes.{refused-ends}
use Rattle.budgets.specs.Budgets.{judged_with, budgeting}
use Rattle.budgets.proofs.Outcomes.{totals-write, told-refused, told-written, only-line, refusal-ends, writing-ends}
use Rattle.budgets.proofs.budgets.Goals.{In_ok-header}
use Rattle.budgets.proofs.budgets.Goals as goal

-- the index is that of the line that the bytes say
index : (c : In_ok-header) → Indexed c.args.s.now c.in_ok-header.header c.read_commands.new.index
index c = said-line c.in_ok-header.ensures

pub judge-requires : goal.judge-requires
judge-requires c = size_high (index (goal.at.judge-requires c).In_ok-header) (λ i. (c.type_inv.s i).fits)

pub put_line-requires : goal.put_line-requires
put_line-requires c =
    let x = index (goal.at.put_line-requires c).In_ok-header in
    let t = told-written _ x.line _ (c.in_ok-judge.ensures x.line (size_is x) x.indexes) in
    record { indexed = x; judged = λ l e. only-line x e _ t.judged; bytes_in_bounds = t.room_enough }

pub returns-in_err-header : goal.returns-in_err-header
unfolding budgeting
returns-in_err-header c =
    let a = c.args in
    let ends = refused-ends (totals-write a.list.now) _ a.out.now (ap (judged_with a.list.now) (refused-by _ c.in_err-header.ensures.answer)) refl in
    let p = err_from_is_err_and c.from_residual.result c.from_residual.ensures.1 in
    rw (p.1, p.2) (record { answer = ends.0; numbers = ends.1.0; bytes = ends.1.1 })

pub returns-in_err-judge : goal.returns-in_err-judge
returns-in_err-judge c =
    let x = index (goal.at.returns-in_err-judge c).In_ok-header in
    let a = c.args in
    let ends = refusal-ends a.s.now a.list.now x.means a.out.now (told-refused _ x.line _ (c.in_err-judge.ensures x.line (size_is x) x.indexes)) in
    let p = err_from_is_err_and c.from_residual-in_err-judge.result c.from_residual-in_err-judge.ensures.1 in
    rw (p.1, p.2) (record { answer = ends.0; numbers = ends.1.0; bytes = ends.1.1 })

pub returns : goal.returns
returns c =
    let x = index (goal.at.returns c).In_ok-header in
    let t = told-written _ x.line _ (c.in_ok-judge.ensures x.line (size_is x) x.indexes) in
    let a = c.args in
    let ends = writing-ends a.s.now a.list.now x.means a.out.now t (c.put_line.ensures x.line x.means) in
    record { answer = ends.0; numbers = ends.1.0; bytes = ends.1.1 }
