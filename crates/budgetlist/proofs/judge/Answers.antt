-- `budgetlist::judge` meets its contract. Assumes nothing.
use mathlib.Core.List.{List}
use mathlib.Core.Path.{◌≡◌, sym}
use Prim.Native.Nat.{ℕ, ◌%◌, ◌≤◌}
use native.Mathlib.Omega.{arith}
use lib.ListN.{length}
use Rattle.std.specs.Prelude.{Some, None}
use Rattle.sizes.specs.Sizes.{most_budgets, budget_bytes}
use Rattle.budgetlist.specs.Budgets.{budget_count}
use Rattle.budgetlist.proofs.Laws.{RightLength, wrong-length, by_entries, found_inside}
use Rattle.budgetlist.proofs.judge.Goals.{then-list-lt1-via-then-list-lt1, then-list-lt1-via-else-list-lt1+then-list-ne0, then-list-lt1-via-else-list-lt1+else-list-ne0+then-count-gt-BUDGETS}
use Rattle.budgetlist.proofs.judge.Goals as goal

-- the three tests of the length, failed
right : (list : List ℕ) → 1 ≤ length list → length list % budget_bytes ≡ 0 → budget_count list ≤ most_budgets → RightLength list
right list h e f = record { not_empty = h; no_part = e; not_long = f }

pub returns-then-list-lt1 : goal.returns-then-list-lt1
returns-then-list-lt1 c =
    let list = c.args.list.now in
    rw (wrong-length list (λ h. elim c.then-list-lt1.branch [
      | then-list-lt1-via-then-list-lt1 w ↦ omega (arith, h.not_empty)
      | then-list-lt1-via-else-list-lt1+then-list-ne0 w ↦ omega (arith, h.no_part)
      | then-list-lt1-via-else-list-lt1+else-list-ne0+then-count-gt-BUDGETS w ↦ omega (arith, h.not_long)
    ]))

pub overflow_cast-result : goal.overflow_cast-result
overflow_cast-result c = omega (arith, found_inside c.args.list.now (sym c.in-Some.ensures))

pub returns-in-Some : goal.returns-in-Some
returns-in-Some c =
    let list = c.args.list.now in
    rw (by_entries list (right list c.if-list-lt1.false c.if-list-ne0.false c.if-count-gt-BUDGETS.false) (Some c.in-Some.k) (sym c.in-Some.ensures))

pub returns-in-None : goal.returns-in-None
returns-in-None c =
    let list = c.args.list.now in
    rw (by_entries list (right list c.if-list-lt1.false c.if-list-ne0.false c.if-count-gt-BUDGETS.false) None (sym c.in-None.ensures))
