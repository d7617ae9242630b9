-- `loadings::target` meets its contract. Assumes nothing.
use mathlib.Core.Path.{refl}
use Rattle.steps.specs.Tones.{no_bits}
use Rattle.loadings.specs.Loads.{target_on}
use Rattle.loadings.proofs.Runs.{runnable, none-stands, carried-by, missed_by}
use Rattle.loadings.proofs.Outcomes.{load-refused, load-done, target-short, target-missed, target-carried}
use Rattle.loadings.proofs.target.Goals as goal

pub returns-then-table-tones : goal.returns-then-table-tones
returns-then-table-tones c = λ T L. load-refused (target_on T _ _) _ (target-short L _ c.if-table-tones.true)

pub run-ended-requires : goal.run-ended-requires
run-ended-requires c = let L = c.requires.loadable in runnable L (none-stands L c.no_bits-start.ensures.stands)

pub returns-in-Finished : goal.returns-in-Finished
returns-in-Finished c = λ T L.
    let E = c.run-ended.ensures T (no_bits T) (none-stands L c.no_bits-start.ensures.stands) in
    load-refused (target_on T c.args.budget c.args.target) _
    (target-missed L _ c.if-table-tones.false refl (missed_by L c.args.target E.progressed c.in-Finished.is))

pub returns-in-Moved : goal.returns-in-Moved
returns-in-Moved c = λ T L.
    let h = c.if-table-tones.false in
    let E = c.run-ended.ensures T (no_bits T) (none-stands L c.no_bits-start.ensures.stands) in
    load-done
    (record {
      stands = E.stands;
      room = h;
      written = c.put_table.ensures.table;
    })
    (target_on T c.args.budget c.args.target) (target-carried L _ h refl (carried-by L c.args.target E.progressed c.in-Moved.is))
