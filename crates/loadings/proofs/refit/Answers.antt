-- `loadings::refit` meets its contract. Assumes nothing.
use mathlib.Core.Path.{◌∙◌}
use native.Mathlib.Omega.{arith}
use Rattle.steps.specs.Runs.{refit_step, run}
use Rattle.loadings.specs.Refits.{refit_up_to}
use Rattle.loadings.proofs.Runs.{runnable, writable}
use Rattle.loadings.proofs.Starting.{first-is, first-tone, start-in-range, start-stands}
use Rattle.loadings.proofs.Outcomes.{refit-refused, refit-done, refit-short, refit-length, refit-above, refit-fits}
use Rattle.loadings.proofs.refit.Goals as goal

pub returns-then-table-tones : goal.returns-then-table-tones
returns-then-table-tones c = λ T L. refit-refused (refit_up_to _ T _ _) _ (refit-short L _ _ c.if-table-tones.true)

pub returns-then-start-tones : goal.returns-then-start-tones
returns-then-start-tones c = λ T L. refit-refused (refit_up_to _ T _ _) _ (refit-length L _ _ c.if-table-tones.false c.if-start-tones.true)

pub overflow_cast-result : goal.overflow_cast-result
overflow_cast-result c =
    let L = c.requires.loadable in
    record { fits = omega (arith, first-tone L _ c.if-start-tones.false c.first_above.ensures c.in-Some.is, L.in_range.count_high) }

pub returns-in-Some : goal.returns-in-Some
returns-in-Some c = λ T L.
    let m = c.if-start-tones.false in
    refit-refused (refit_up_to c.args.most T c.args.budget c.args.start.now) _
    (refit-above L _ _ c.if-table-tones.false m (first-is L _ m c.first_above.ensures ∙ c.in-Some.is))

pub from_start-from-requires-clause-powers_in_range : goal.from_start-from-requires-clause-powers_in_range
from_start-from-requires-clause-powers_in_range c =
    start-in-range c.requires.loadable _ c.if-start-tones.false c.first_above.ensures c.in_default.is

pub run-ended-requires : goal.run-ended-requires
run-ended-requires c =
    let L = c.requires.loadable in
    runnable L (start-stands L _ c.if-start-tones.false c.first_above.ensures c.in_default.is c.from_start-from.ensures.stands)

pub put_table-requires-clause-powers_in_range : goal.put_table-requires-clause-powers_in_range
put_table-requires-clause-powers_in_range c =
    let L = c.requires.loadable in
    let S = start-stands L _ c.if-start-tones.false c.first_above.ensures c.in_default.is c.from_start-from.ensures.stands in
    writable L (c.run-ended.ensures _ _ S).stands

pub returns : goal.returns
returns c = λ T L.
    let m = c.if-start-tones.false in
    let h = c.if-table-tones.false in
    let found = c.first_above.ensures in
    let E = c.run-ended.ensures T c.args.start.now (start-stands L _ m found c.in_default.is c.from_start-from.ensures.stands) in
    refit-done {ran = run (refit_step T c.args.budget) c.args.most c.args.start.now}
    (record {
      stands = E.stands;
      room = h;
      written = c.put_table.ensures.table;
    })
    (refit_up_to c.args.most T c.args.budget c.args.start.now) (refit-fits L _ _ h m (first-is L _ m found ∙ c.in_default.is)) E.counted
