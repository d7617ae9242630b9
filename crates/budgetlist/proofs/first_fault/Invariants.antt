-- `budgetlist::first_fault` meets its contract. Between the turns no entry below k is wrong, and `last` is the budget before k. Assumes nothing.
use mathlib.Core.Bool.{false}
use mathlib.Core.Path.{◌≡◌}
use Prim.Native.Nat.{ℕ, ◌<◌}
use Rattle.budgetlist.specs.Budgets.{is_fault}
use Rattle.budgetlist.proofs.Laws.{last_of}
use Rattle.budgetlist.proofs.first_fault.Given as goal

abbrev pub invariant-loop-k : goal.invariant-loop-k
invariant-loop-k l = (l.last ≡ last_of l.list l.k) × ((j : ℕ) → j < l.k → is_fault l.list j ≡ false)
