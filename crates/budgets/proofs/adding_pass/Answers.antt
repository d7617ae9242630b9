-- `budgets::adding_pass` meets its contract. Before each budget the pass has come as far as the one before it. Assumes nothing.
use native.Mathlib.Omega.{arith}
use Rattle.line.proofs.Arrays.{stands-under}
use Rattle.ranks.specs.Ranks.{no_step}
use Rattle.wholeruns.proofs.Along.{none_yet}
use Rattle.loadings.proofs.Runs.{none-stands}
use Rattle.budgets.proofs.Pass.{passing-starts, passing-runs, moves-few, passing-next, passing-ends}
use Rattle.budgets.proofs.adding_pass.Goals as goal

pub fill-requires : goal.fill-requires
unfolding no_step
fill-requires c =
    let L = c.requires.some_tones.loadable in
    record {
      arrays_in_range = L.in_range;
      under = stands-under (none-stands L c.no_bits-running.ensures.stands).table;
      free_past = none_yet _;
      held_past = none_yet _;
    }

pub loop-k-init : goal.loop-k-init
loop-k-init c = passing-starts c.requires c.no_bits-running.ensures.stands c.fill.ensures

pub go_on-ended-requires-clause-runnable : goal.go_on-ended-requires-clause-runnable
go_on-ended-requires-clause-runnable c = passing-runs c.loop-k.invariant

pub overflow_add-moves : goal.overflow_add-moves
overflow_add-moves c = record { fits = omega (arith, moves-few c.loop-k.invariant c.loop-k-test.true c.budget_at-budget.ensures c.go_on-ended.ensures.run) }

pub loop-k-preserved : goal.loop-k-preserved
loop-k-preserved c =
    passing-next c.loop-k.invariant c.loop-k-test.true c.budget_at-budget.ensures c.go_on-ended.ensures.run c.go_on-ended.ensures.ranks c.put_totals.ensures

pub returns : goal.returns
returns c = passing-ends c.loop-k.invariant (omega arith)
