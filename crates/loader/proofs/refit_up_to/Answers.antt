-- `loader::refit_up_to` meets its contract. Assumes nothing.
use Rattle.std.proofs.lemmas.Result.{err_from_is_err_and}
use Rattle.arrays.proofs.Uses.{held-line, was-refused}
use Rattle.loadings.specs.Refits.{refit_up_to, RefitsAs}
use Rattle.loadings.proofs.Outcomes.{refit-refused}
use Rattle.loader.specs.Calls.{refit_by}
use Rattle.loader.proofs.Outcomes.{some_tones, on-held, not-loaded}
use Rattle.loader.proofs.refit_up_to.Goals as goal

pub refit-requires : goal.refit-requires
refit-requires c = some_tones c.args.s.now (held-line _ c.in_ok-header.ensures)

pub returns-in_err-header : goal.returns-in_err-header
unfolding refit_by
returns-in_err-header c =
    let a = c.args in
    let p = err_from_is_err_and c.from_residual.result c.from_residual.ensures.1 in
    rw (p.1, p.2) (refit-refused (refit_by a.most a.s.now a.start.now) _ (not-loaded (was-refused _ c.in_err-header.ensures) _))

pub returns : goal.returns
unfolding refit_by
returns c =
    on-held c.args.s.now (held-line _ c.in_ok-header.ensures) (RefitsAs _ _ _) (λ T budget. refit_up_to _ T budget _) c.refit.ensures
