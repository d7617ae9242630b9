-- What is promised of the calls besides their outcomes: demand 3 of the bytes and totals at exit, most bits, least power at a set number of
-- bits, the totals for many budgets, the guarded loading, the tidy form; and what the technician checks every morning.
-- Assumes nothing.
use Rattle.std.specs.Prelude.{true, List, ◌≡◌, ℕ, ◌+◌, ◌*◌, ◌≤◌, ◌<◌, length, get_or, take, Result, Ok}
use Rattle.sizes.specs.Sizes.{bytes_a_tone, totals_bytes}
use Rattle.bigendian.specs.Number.{number}
use Rattle.silence.specs.Map.{silenced}
use Rattle.steps.specs.Tones.{Tones, Table, ◌!◌, sum, no_bits, total_bits, total_power, KeepsLimits, KeepsBudget}
use Rattle.steps.specs.Runs.{add_step, most_bits, refit_run, set_bits}
use Rattle.steps.specs.Claims.{Best, Moves, Demand3, SetBits}
use Rattle.line.specs.Line.{undescribed, Line, entry_of, entry_mask, tones}
use Rattle.tables.specs.Tables.{table_bytes}
use Rattle.refusals.specs.declared.Refusal.{Refusal}
use Rattle.running.specs.declared.Totals.{Totals}
use Rattle.loadings.specs.declared.Refitted.{Refitted}
use Rattle.loadings.specs.Loads.{on_target, totals_of, load_answer, after_loading}
use Rattle.budgetlist.specs.Budgets.{budget_of, budget_count}
use Rattle.sheet.specs.Reading.{accepted, said, reading}
use Rattle.budgets.specs.Budgets.{with_budget, judged_with}
use Rattle.noises.specs.Noises.{at_high}
use Rattle.noises.specs.Claims.{BestGuarded}
use Rattle.guarded.specs.declared.GuardedLoad.{GuardedLoad}
use Rattle.tidyform.specs.Tidy.{tidy}
use Rattle.tidyform.specs.Claims.{TidyKeeps}
use Rattle.loader.specs.Calls.{load_most, refit}

-- what holds of every accepted sheet whose table has room
abbrev pub Loads : (sheet old : List ℕ) → (Line → Type 0) → Type 0
Loads sheet old P = (l : Line) → reading sheet ≡ accepted l → bytes_a_tone * l.size ≤ length old → P l

-- The loading for most bits: the table that adding from nothing ends in, with its totals; it is within limits and budget, and no other
-- table within them carries more bits, or as many for less power.
pub record MostBits (T : Tones) (budget : ℕ) (r : Result Totals Refusal) (old new : List ℕ) : Type 0 where
  pub answers : r ≡ Ok (totals_of T (most_bits T budget).table)
  pub front : take (bytes_a_tone * T.count) new ≡ table_bytes T (most_bits T budget).table
  pub limits : KeepsLimits T (most_bits T budget).table
  pub budget_kept : KeepsBudget T budget (most_bits T budget).table
  pub best : Best T budget (most_bits T budget).table
  pub added : Moves (add_step T budget) (most_bits T budget).moves (no_bits T) (most_bits T budget).table

abbrev pub MostBitsOn : (sheet : List ℕ) → Result Totals Refusal → (old new : List ℕ) → Type 0
MostBitsOn sheet r old new = Loads sheet old (λ l. MostBits (tones l) l.budget r old new)

-- Demand 3 of the re-fit's own answer and buffer, on one accepted sheet and one starting table that keeps its limits: the bytes and the
-- totals at exit are those of the loading for most bits, the count is of the rule's own moves, and all that `Demand3` of crate steps says
-- of the two runs.
pub record SameLoading (sheet start : List ℕ) (l : Line) (r : Result Refitted Refusal) (old new : List ℕ) : Type 0 where
  pub same_bytes : new ≡ after_loading (load_most sheet (length old)) old
  pub same_totals : load_answer (refit sheet start (length old)) ≡ load_answer (load_most sheet (length old))
  pub answers : r ≡ Ok (record { totals = totals_of (tones l) (most_bits (tones l) l.budget).table; moves = (refit_run (tones l) l.budget start).moves })
  pub runs : Demand3 (tones l) l.budget start

abbrev pub Demand3On : (sheet start : List ℕ) → Result Refitted Refusal → (old new : List ℕ) → Type 0
Demand3On sheet start r old new = Loads sheet old (λ l. KeepsLimits (tones l) start → SameLoading sheet start l r old new)

-- A set number of bits: the table that carries the target for the least power of all tables within the limits, or refusal 11 exactly where
-- no table within limits and budget carries it.
pub record TargetMet (T : Tones) (budget target : ℕ) (r : Result Totals Refusal) : Type 0 where
  pub answers : r ≡ load_answer (on_target T (set_bits T budget target))
  pub carries : SetBits T budget target (set_bits T budget target)

abbrev pub TargetOn : (sheet : List ℕ) → (target : ℕ) → Result Totals Refusal → (old : List ℕ) → Type 0
TargetOn sheet target r old = Loads sheet old (λ l. TargetMet (tones l) l.budget target r)

-- W7, the totals of a budget as entry k of the written bytes has them: bits in 4, power in 8.
abbrev pub bits_at : (out : List ℕ) → (k : ℕ) → ℕ
bits_at out k = number out (totals_bytes * k) 4

abbrev pub power_at : (out : List ℕ) → (k : ℕ) → ℕ
power_at out k = number out (totals_bytes * k + 4) 8

-- They are those of a table within limits and that budget, and no other table within them carries more bits, or as many for less power; and
-- 'Each answer is what a loading with that budget alone would give': of every sheet that means the line with that budget in place of its own.
pub record BudgetMet (l : Line) (budget : ℕ) (new : List ℕ) (k : ℕ) : Type 0 where
  pub bits : bits_at new k ≡ total_bits (tones l) (most_bits (tones l) budget).table
  pub power : power_at new k ≡ total_power (tones l) (most_bits (tones l) budget).table
  pub limits : KeepsLimits (tones l) (most_bits (tones l) budget).table
  pub budget_kept : KeepsBudget (tones l) budget (most_bits (tones l) budget).table
  pub best : Best (tones l) budget (most_bits (tones l) budget).table
  pub alone : (sheet : List ℕ) (room : ℕ) → reading sheet ≡ accepted (with_budget budget l) → bytes_a_tone * l.size ≤ room
      → load_answer (load_most sheet room) ≡ Ok (record { bits = bits_at new k; power = power_at new k })

abbrev pub BudgetsOn : (sheet list old new : List ℕ) → Type 0
BudgetsOn sheet list old new =
    (l : Line) → judged_with list (said sheet) ≡ accepted l → totals_bytes * budget_count list ≤ length old → (k : ℕ) → k < budget_count list
    → BudgetMet l (budget_of list k) new k

-- W9, the guarded loading: answers and table are those of the loading for most bits at the high noises, with the plain loading's total bits; and
-- 'For every choice of noises inside the ranges its table keeps limits and budget, and no table with that property carries more bits, or as many
-- with less power at the high noises.'
pub record GuardedMet (l : Line) (r : Result GuardedLoad Refusal) (new : List ℕ) : Type 0 where
  pub answers : r ≡ Ok (record { totals = totals_of (tones (at_high l)) (most_bits (tones (at_high l)) l.budget).table; plain = total_bits (tones l) (most_bits (tones l) l.budget).table })
  pub front : take (bytes_a_tone * l.size) new ≡ table_bytes (tones (at_high l)) (most_bits (tones (at_high l)) l.budget).table
  pub best : BestGuarded l (most_bits (tones (at_high l)) l.budget).table

abbrev pub GuardedOn : (sheet : List ℕ) → Result GuardedLoad Refusal → (old new : List ℕ) → Type 0
GuardedOn sheet r old new = Loads sheet old (λ l. GuardedMet l r new)

-- Tidying: what was written reads as the same line and tidies to itself.
pub record WritesTidy (sheet : List ℕ) (l : Line) (new : List ℕ) : Type 0 where
  pub front : take (length (tidy l)) new ≡ tidy l
  pub keeps : TidyKeeps sheet l

abbrev pub TidyOn : (sheet old new : List ℕ) → Type 0
TidyOn sheet old new = (l : Line) → reading sheet ≡ accepted l → length (tidy l) ≤ length old → WritesTidy sheet l new

-- ---- the written bytes

-- the mask of tone i, 0 where none is described
abbrev pub mask_at : Line → (i : ℕ) → ℕ
mask_at l i = entry_mask (entry_of l i)

-- the power of tone i as it is written, and that it carries neither bits nor power
abbrev pub written_power : Line → Table → (i : ℕ) → ℕ
written_power l t i = number (table_bytes (tones l) t) (bytes_a_tone * i + 1) 8

abbrev pub Nothing : Line → Table → (i : ℕ) → Type 0
Nothing l t i = (get_or (table_bytes (tones l) t) (bytes_a_tone * i) 0 ≡ 0) × (written_power l t i ≡ 0)

-- A table that keeps limits and budget, as its written bytes have it: tone i's bits stand at 9 × i and its power in the 8 bytes after.
pub record Respects (l : Line) (t : Table) : Type 0 where
  pub bits_stand : (i : ℕ) → i < l.size → get_or (table_bytes (tones l) t) (bytes_a_tone * i) 0 ≡ t ! i
  pub power_stands : (i : ℕ) → i < l.size → written_power l t i ≡ (tones l).power i (t ! i)
  -- every power is at most its tone's mask, and the powers add up to at most the budget
  pub masks : (i : ℕ) → i < l.size → written_power l t i ≤ mask_at l i
  pub budget : sum l.size (written_power l t) ≤ l.budget
  -- a silenced tone, and one not described, carries nothing
  pub silenced_tones : (i : ℕ) → i < l.size → silenced l.maps i ≡ true → Nothing l t i
  pub other_tones : (i : ℕ) → i < l.size → entry_of l i ≡ undescribed → Nothing l t i
