-- `sheet::read_within_budget` meets its contract. Assumes nothing.
use Rattle.std.proofs.lemmas.Result.{err_from_is_err_and}
use Rattle.sheet.proofs.Uses.{said-line, size_high, judged-refused, judged-over, judged-kept}
use Rattle.sheet.proofs.read_within_budget.Goals as goal

pub rest_total-requires : goal.rest_total-requires
rest_total-requires c = size_high (said-line c.in_ok-header.ensures) (λ i. (c.type_inv.s i).fits)

pub returns-in_err-header : goal.returns-in_err-header
returns-in_err-header c =
    let p = err_from_is_err_and c.from_residual.result c.from_residual.ensures.1 in
    rw (p.1, p.2) (judged-refused c.in_err-header.ensures)

pub returns-then-header-rest_total : goal.returns-then-header-rest_total
returns-then-header-rest_total c = judged-over c.in_ok-header.ensures c.rest_total.ensures c.if-header-rest_total.true

pub returns : goal.returns
returns c = judged-kept c.in_ok-header.ensures c.rest_total.ensures c.if-header-rest_total.false
