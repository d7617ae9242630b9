-- One adding pass over a row of budgets. Document 02, W7: 'in one adding pass'.
-- Assumes nothing.
use Rattle.std.specs.Prelude.{ℕ, zero, suc, ◌+◌, ◌≤◌, ◌<◌}
use Rattle.steps.specs.Tones.{Tones, no_bits, sum_of_limits}
use Rattle.steps.specs.Runs.{Ran, add_step, run}

-- a run that goes on from where another ended: the table that it leaves, and the moves of both
abbrev pub further : Ran → Ran → Ran
further a b = record { table = b.table; moves = a.moves + b.moves }

-- The pass through the first n budgets: the run for each goes on from the table that the one before it left, the first from no bits.
unfoldable pub one_pass : Tones → (budgets : (k : ℕ) → ℕ) → (n : ℕ) → Ran
one_pass T budgets zero = record { table = no_bits T; moves = 0 }
one_pass T budgets (suc n) =
    further (one_pass T budgets n) (run (add_step T (budgets n)) (sum_of_limits T) (one_pass T budgets n).table)

-- of the first n budgets none is below the one before it
pub record NoneFalls (budgets : (k : ℕ) → ℕ) (n : ℕ) : Type 0 where
  pub no_fall : (k : ℕ) → suc k < n → budgets k ≤ budgets (suc k)
