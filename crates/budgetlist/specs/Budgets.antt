-- A list of budgets, and what is wrong with one. Document 02, W7: 'Take a list of budgets, 8 bytes each, equal ones allowed'.
-- Assumes nothing.
use Rattle.std.specs.Prelude.{Bool, ◌&&◌, ◌||◌, cond, List, ℕ, zero, suc, ◌*◌, ◌/◌, ◌%◌, leb, ltb, eqb, length, Option, Some, None, Result, Ok, Err}
use Rattle.sizes.specs.Sizes.{most_power, most_budgets, budget_bytes}
use Rattle.lists.specs.First.{first}
use Rattle.bigendian.specs.Number.{number}
use Rattle.refusals.specs.declared.Refusal.{Refusal}
use Rattle.refusals.specs.declared.Refusal.TheVariants.{OperandOutOfRange}

-- the budget at number k, from 0: 'a number of several bytes goes high byte first'
abbrev pub budget_of : (list : List ℕ) → (k : ℕ) → ℕ
budget_of list k = number list (budget_bytes * k) budget_bytes

-- how many there are
abbrev pub budget_count : (list : List ℕ) → ℕ
budget_count list = length list / budget_bytes

-- its length is right, unless it is 'empty, not a multiple of 8 bytes, longer than 32 entries'
abbrev pub is_length : (list : List ℕ) → Bool
is_length list = ltb 0 (length list) && (eqb (length list % budget_bytes) 0 && leb (budget_count list) most_budgets)

-- whether entry k is 'too large or below the one before it'
abbrev pub is_fault : (list : List ℕ) → (k : ℕ) → Bool
is_fault list zero = ltb most_power (budget_of list zero)
is_fault list (suc k) = ltb most_power (budget_of list (suc k)) || ltb (budget_of list (suc k)) (budget_of list k)

-- 'refused with 4, its length judged first with place 0, else with the number, from 0, of the first entry that is too large or below the one
-- before it'
abbrev pub at_entry : Option ℕ → Option Refusal
at_entry (Some k) = Some (OperandOutOfRange k)
at_entry None = None

unfoldable pub list_refusal : (list : List ℕ) → Option Refusal
list_refusal list = cond (is_length list) (at_entry (first (is_fault list) (budget_count list))) (Some (OperandOutOfRange 0))

-- what judging a list answers: how many budgets it has, or its refusal
abbrev pub list_answer : (list : List ℕ) → Option Refusal → Result ℕ Refusal
list_answer list None = Ok (budget_count list)
list_answer list (Some q) = Err q
