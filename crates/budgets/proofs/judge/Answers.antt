-- `budgets::judge` meets its contract. Assumes nothing.
use mathlib.Core.Path.{sym, ap}
use native.Mathlib.Omega.{arith}
use Rattle.std.proofs.lemmas.Result.{err_from_is_err_and}
use Rattle.refusals.specs.Writing.{write_answer}
use Rattle.budgetlist.proofs.Laws.{right-list, listed-right, listed-refused}
use Rattle.sheet.proofs.Uses.{total-is}
use Rattle.budgets.proofs.Outcomes.{list-refused, rests-refused, room-refused, totals-written}
use Rattle.budgets.proofs.judge.Goals as goal

pub budget_at-requires : goal.budget_at-requires
budget_at-requires c =
    let R = right-list _ (listed-right _ c.in_ok-budgets.ensures).0 in
    omega (arith, R.some, R.whole)

pub returns-then-budget_at-rest_total : goal.returns-then-budget_at-rest_total
returns-then-budget_at-rest_total c = λ l size x.
    let a = c.args in
    let right = (listed-right _ c.in_ok-budgets.ensures).0 in
    ap write_answer (sym (rests-refused a.list.now l a.room right (omega (arith, total-is x size c.rest_total.ensures, c.budget_at.ensures, c.if-budget_at-rest_total.true))))

pub returns-then-room-budgets : goal.returns-then-room-budgets
returns-then-room-budgets c = λ l size x.
    let a = c.args in
    let n = listed-right _ c.in_ok-budgets.ensures in
    ap write_answer (sym (room-refused a.list.now l a.room n.0 (omega (arith, total-is x size c.rest_total.ensures, c.budget_at.ensures, c.if-budget_at-rest_total.false)) (omega (arith, n.1, c.if-room-budgets.true))))

pub returns-in_err-budgets : goal.returns-in_err-budgets
returns-in_err-budgets c = λ l size x.
    let a = c.args in
    let p = err_from_is_err_and c.from_residual.result c.from_residual.ensures.1 in
    rw (p.1, p.2) (ap write_answer (sym (list-refused a.list.now l a.room (listed-refused _ c.in_err-budgets.ensures))))

pub returns : goal.returns
returns c = λ l size x.
    let a = c.args in
    let n = listed-right _ c.in_ok-budgets.ensures in
    ap write_answer (sym (totals-written a.list.now l a.room n.0 (omega (arith, total-is x size c.rest_total.ensures, c.budget_at.ensures, c.if-budget_at-rest_total.false)) (omega (arith, n.1, c.if-room-budgets.false))))
