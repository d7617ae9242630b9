-- `budgetlist::first_fault` meets its contract. Between the turns no entry below k is wrong, and `last` is the budget before k. Assumes nothing.
use mathlib.Core.Path.{sym}
use native.Mathlib.Omega.{arith}
use Rattle.lists.proofs.First.{none_first, first-at}
use Rattle.budgetlist.proofs.Laws.{too_large, below_last}
use Rattle.budgetlist.proofs.first_fault.Goals.{then-budget-gt-MOST_POWER-via-then-budget-gt-MOST_POWER, then-budget-gt-MOST_POWER-via-else-budget-gt-MOST_POWER+then-budget-last}
use Rattle.budgetlist.proofs.first_fault.Goals as goal

pub returns-then-budget-gt-MOST_POWER : goal.returns-then-budget-gt-MOST_POWER
returns-then-budget-gt-MOST_POWER c =
    let k = c.loop-k.k in
    let e = c.budget_at-budget.ensures in
    sym (first-at _ _ k c.loop-k-test.true (elim c.then-budget-gt-MOST_POWER.branch [
      | then-budget-gt-MOST_POWER-via-then-budget-gt-MOST_POWER w ↦ too_large _ k (omega (arith, e))
      | then-budget-gt-MOST_POWER-via-else-budget-gt-MOST_POWER+then-budget-last w ↦ below_last _ k (omega (arith, e, c.loop-k.invariant.0))
    ]) c.loop-k.invariant.1)

pub returns : goal.returns
returns c = sym (none_first _ _ (λ j l. c.loop-k.invariant.1 j (omega arith)))
