-- What the adding pass is given and leaves: the tones as an array of steps, and the list.
-- Assumes nothing.
use Rattle.std.specs.Prelude.{List, ◌≡◌, ℕ, suc, ◌*◌, ◌≤◌, length}
use Rattle.std.proofs.lemmas.List.Edits.{sets}
use Rattle.sizes.specs.Sizes.{most_budgets, budget_bytes, totals_bytes}
use Rattle.lists.specs.Joined.{joined_below}
use Rattle.steps.specs.Runs.{most_bits}
use Rattle.steps.specs.Passes.{NoneFalls}
use Rattle.line.specs.Arrays.{Arrays}
use Rattle.budgetlist.specs.Budgets.{budget_of}
use Rattle.loadings.specs.Loads.{SomeTones, ForTones}
use Rattle.budgets.specs.Budgets.{totals_for}

-- There are tones whose table of no bits keeps the first budget; the list has n budgets at least, n is at most 32, and none of them falls; the
-- buffer has room for their totals.
pub record Passable (count : ℕ) (A : Arrays) (list : List ℕ) (n : ℕ) (out : List ℕ) : Type 0 where
  pub some_tones : SomeTones count (budget_of list 0) A
  pub few_budgets : n ≤ most_budgets
  pub listed : budget_bytes * n ≤ length list
  pub none_falls : NoneFalls (budget_of list) n
  pub room : totals_bytes * n ≤ length out

-- The totals for each of the n budgets are written from the buffer's start on, after as many moves as the last budget alone needs.
pub record PassedBy (count : ℕ) (A : Arrays) (list : List ℕ) (n : ℕ) (old new : List ℕ) (moves : ℕ) : Type 0 where
  pub written : ForTones count (budget_of list 0) A (λ T. new ≡ sets old 0 (joined_below (λ k. totals_for T (budget_of list k)) n))
  pub counted : ForTones count (budget_of list 0) A (λ T. (last : ℕ) → n ≡ suc last → moves ≡ (most_bits T (budget_of list last)).moves)
