-- The call that gives the totals of a line for each budget of a list, for all bytes of sheet and list and all buffers. Document 02, W7: 'return
-- total bits and total power for each, 4 and 8 bytes'.
-- Assumes nothing.
use Rattle.std.specs.Prelude.{List, ◌++◌, ℕ, Option, Some, None}
use Rattle.lists.specs.Joined.{joined_below}
use Rattle.bigendian.specs.Number.{bytes}
use Rattle.steps.specs.Tones.{Tones, total_bits, total_power}
use Rattle.steps.specs.Runs.{most_bits}
use Rattle.line.specs.Line.{Line, tones}
use Rattle.refusals.specs.declared.Refusal.{Refusal}
use Rattle.refusals.specs.Writing.{Writing}
use Rattle.budgetlist.specs.Budgets.{budget_of, budget_count, list_refusal}
use Rattle.sheet.specs.Reading.{Meaning, accepted, refused, rests_within, said}
use Rattle.sheet.specs.Writes.{writing}

-- the 12 bytes of a budget: total bits and total power of the loading of tones for most bits
abbrev pub totals_for : Tones → (budget : ℕ) → List ℕ
totals_for T budget = bytes 4 (total_bits T (most_bits T budget).table) ++ bytes 8 (total_power T (most_bits T budget).table)

-- 'The list replaces the sheet's budget for that call': a line with another budget
abbrev pub with_budget : (budget : ℕ) → Line → Line
with_budget budget l = record { size = l.size; gap = l.gap; budget = budget; entries = l.entries; maps = l.maps }

-- 'Each answer is what a loading with that budget alone would give.'
abbrev pub totals_of : Line → List ℕ
totals_of l = totals_for (tones l) l.budget

abbrev pub totals_bytes_of : (list : List ℕ) → Line → List ℕ
totals_bytes_of list l = joined_below (λ k. totals_of (with_budget (budget_of list k) l)) (budget_count list)

-- What the bytes of the sheet say comes first; 4 of the list 'comes straight after 7, then 16, judged against the first budget'.
abbrev pub on_list : Option Refusal → (first : ℕ) → Line → Meaning
on_list (Some q) first l = refused q
on_list None first l = rests_within first l

abbrev pub judged_with : (list : List ℕ) → Meaning → Meaning
judged_with list (refused q) = refused q
judged_with list (accepted l) = on_list (list_refusal list) (budget_of list 0) l

-- 'then 8, which here means under 12 bytes a budget'; or the totals written
unfoldable pub budgeting : (sheet list : List ℕ) → (room : ℕ) → Writing
budgeting sheet list room = writing (totals_bytes_of list) (judged_with list (said sheet)) room
