-- What each test-only entry comes to, and what it leaves in the buffer that it writes besides the answers: as a host call.
-- Assumes nothing.
use Rattle.std.specs.Prelude.{cond, List, ℕ, ltb, length}
use Rattle.sizes.specs.Sizes.{answer_room}
use Rattle.refusals.specs.Refusals.{Outcome}
use Rattle.refusals.specs.Writing.{write_outcome, after_writing}
use Rattle.sheet.specs.Reading.{reading}
use Rattle.limits.specs.Limits.{limiting}
use Rattle.budgets.specs.Budgets.{budgeting}
use Rattle.loadings.specs.Loads.{after_loading}
use Rattle.guarded.specs.Guarded.{guarding, plain_bits, guarded_outcome}
use Rattle.answers.specs.Answers.{hosted, hosted_buffer}

abbrev pub outside_limits : (sheet out answer : List ℕ) → Outcome
outside_limits sheet out answer = hosted sheet answer (write_outcome (limiting (reading sheet) (length out)))

abbrev pub outside_limited : (sheet out answer : List ℕ) → List ℕ
outside_limited sheet out answer = hosted_buffer answer out (after_writing (limiting (reading sheet) (length out)) out)

-- W7: the refusals of sheet and list come first, then 8, of the answers' room or of the totals'; a buffer of no bytes has room for no totals
abbrev pub outside_budgets : (sheet list out answer : List ℕ) → Outcome
outside_budgets sheet list out answer =
    cond (ltb (length answer) answer_room) (write_outcome (budgeting sheet list 0)) (write_outcome (budgeting sheet list (length out)))

abbrev pub outside_budgeted : (sheet list out answer : List ℕ) → List ℕ
outside_budgeted sheet list out answer = hosted_buffer answer out (after_writing (budgeting sheet list (length out)) out)

-- W9: as the host's loadings
abbrev pub outside_guarded : (sheet table answer : List ℕ) → Outcome
outside_guarded sheet table answer = hosted sheet answer (guarded_outcome (plain_bits (reading sheet)) (guarding (reading sheet) (length table)))

abbrev pub outside_guarded_table : (sheet table answer : List ℕ) → List ℕ
outside_guarded_table sheet table answer = hosted_buffer answer table (after_loading (guarding (reading sheet) (length table)) table)
