-- Two tones whose first steps are equal, run by the rules. Each line is one that a wrong rule of document 01's 'Bench traps' breaks, the last two a wrong pass over budgets.
-- Assumes nothing.
use mathlib.Core.Path.{◌≡◌, refl}
use mathlib.Core.List.{[], ◌∷◌}
use Prim.Native.Nat.{ℕ}
use native.Mathlib.Decide.{dec_lt, dec_le, ℕ_discrete}
use lib.ListN.{get_or}
use Rattle.steps.specs.Tones.{Tones, step, before?, sum}
use Rattle.steps.specs.Runs.{against, choice, earliest_free, latest_held, moved, fits?, take_if_fits, give_up_or_take, refit_move, add_step, refit_step, follow, run, most_bits, refit_run}
use Rattle.steps.specs.Passes.{one_pass}

-- tone 0 has steps 2, 3, 6 and tone 1 has steps 2, 4
abbrev two : Tones
two = record {
  count = 2;
  limit = λ i. get_or (3 ∷ 2 ∷ []) i 0;
  power = λ i b. get_or (get_or ((0 ∷ 2 ∷ 5 ∷ 11 ∷ []) ∷ (0 ∷ 2 ∷ 6 ∷ []) ∷ []) i []) b 0;
}

-- of equal steps the lowest tone's is the earliest
tie : most_bits two 2 ≡ record { table = 1 ∷ 0 ∷ []; moves = 1 }
unfolding run follow add_step fits? take_if_fits earliest_free choice against before? step sum dec_lt dec_le ℕ_discrete
tie = refl

-- a step that just fits is taken, and a run makes as many moves as the limits allow
full : most_bits two 17 ≡ record { table = 3 ∷ 2 ∷ []; moves = 5 }
unfolding run follow add_step fits? take_if_fits earliest_free choice against before? step sum dec_lt dec_le ℕ_discrete
full = refl

-- one step makes one move, an exchange too, though the total fits already
one-move : refit_step two 20 (0 ∷ 2 ∷ []) ≡ moved (1 ∷ 1 ∷ [])
unfolding refit_step refit_move fits? take_if_fits give_up_or_take earliest_free latest_held choice against before? step sum dec_lt dec_le ℕ_discrete
one-move = refl

-- the count of a re-fit is of its moves
counted : refit_run two 7 (0 ∷ 2 ∷ []) ≡ record { table = 2 ∷ 1 ∷ []; moves = 2 }
unfolding run follow refit_step refit_move fits? take_if_fits give_up_or_take earliest_free latest_held choice against before? step sum dec_lt dec_le ℕ_discrete
counted = refl

-- a table above the budget gives up its latest held step, of equal ones the higher tone's
over-budget : refit_step two 3 (1 ∷ 1 ∷ []) ≡ moved (1 ∷ 0 ∷ [])
unfolding refit_step refit_move fits? take_if_fits give_up_or_take earliest_free latest_held choice against before? step sum dec_lt dec_le ℕ_discrete
over-budget = refl

-- four budgets, two of them equal
abbrev row : (k : ℕ) → ℕ
row k = get_or (2 ∷ 2 ∷ 7 ∷ 17 ∷ []) k 0

-- a budget equal to the one before it adds no move
equal-budgets : one_pass two row 2 ≡ record { table = 1 ∷ 0 ∷ []; moves = 1 }
unfolding one_pass run follow add_step fits? take_if_fits earliest_free choice against before? step sum dec_lt dec_le ℕ_discrete
equal-budgets = refl

-- a larger one goes on from there, and the pass counts the moves of all its runs
whole-pass : one_pass two row 4 ≡ record { table = 3 ∷ 2 ∷ []; moves = 5 }
unfolding one_pass run follow add_step fits? take_if_fits earliest_free choice against before? step sum dec_lt dec_le ℕ_discrete
whole-pass = refl
