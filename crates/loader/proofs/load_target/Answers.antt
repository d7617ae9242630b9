-- `loader::load_target` meets its contract. Assumes nothing.
use Rattle.std.proofs.lemmas.Result.{err_from_is_err_and}
use Rattle.arrays.proofs.Uses.{held-line, was-refused}
use Rattle.loadings.specs.Loads.{target_on, LoadsAs}
use Rattle.loadings.proofs.Outcomes.{load-refused}
use Rattle.loader.specs.Calls.{load_target}
use Rattle.loader.proofs.Outcomes.{some_tones, on-held, not-loaded}
use Rattle.loader.proofs.Promises.{target-call}
use Rattle.loader.proofs.load_target.Goals as goal

pub target-requires : goal.target-requires
target-requires c = some_tones c.args.s.now (held-line _ c.in_ok-header.ensures)

pub returns-in_err-header : goal.returns-in_err-header
unfolding load_target
returns-in_err-header c =
    let a = c.args in
    let p = err_from_is_err_and c.from_residual.result c.from_residual.ensures.1 in
    let w = target-call a.s.now (λ i. (c.type_inv.s i).fits) a.table.now _ a.target (load-refused (load_target a.s.now a.target) _ (not-loaded (was-refused _ c.in_err-header.ensures) _)) in
    rw (p.1, p.2) (record { answer = w.0; numbers = w.1.0; bytes = w.1.1.0; least_power = w.1.1.1 })

pub returns : goal.returns
unfolding load_target
returns c =
    let a = c.args in
    let w = target-call a.s.now (λ i. (c.type_inv.s i).fits) a.table.now _ a.target
    (on-held a.s.now (held-line _ c.in_ok-header.ensures) (LoadsAs _ _ _) (λ T budget. target_on T budget a.target) c.target.ensures) in
    record { answer = w.0; numbers = w.1.0; bytes = w.1.1.0; least_power = w.1.1.1 }
