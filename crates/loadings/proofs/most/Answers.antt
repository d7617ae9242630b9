-- `loadings::most` meets its contract. Assumes nothing.
use Rattle.steps.specs.Tones.{no_bits}
use Rattle.loadings.specs.Loads.{most_on}
use Rattle.loadings.proofs.Runs.{runnable, none-stands, most-stands}
use Rattle.loadings.proofs.Outcomes.{load-refused, load-done, most-short, most-fits}
use Rattle.loadings.proofs.most.Goals as goal

pub returns-then-table-tones : goal.returns-then-table-tones
returns-then-table-tones c = λ T L. load-refused (most_on T _) _ (most-short L c.if-table-tones.true)

pub run-ended-requires : goal.run-ended-requires
run-ended-requires c = let L = c.requires.loadable in runnable L (none-stands L c.no_bits-start.ensures.stands)

pub returns : goal.returns
returns c = λ T L.
    let h = c.if-table-tones.false in
    load-done
    (record {
      stands = most-stands L (c.run-ended.ensures T (no_bits T) (none-stands L c.no_bits-start.ensures.stands)).stands;
      room = h;
      written = c.put_table.ensures.table;
    })
    (most_on T c.args.budget) (most-fits L h)
