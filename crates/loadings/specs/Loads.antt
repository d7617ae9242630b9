-- What a loading of tones answers and writes, with refusals 8 and 11. Document 01, 'The loading runs' and 'Why a sheet is turned down'.
-- Assumes nothing.
use Rattle.std.specs.Prelude.{cond, List, [], ◌∷◌, ◌++◌, ◌≡◌, ℕ, ◌*◌, ltb, length, drop, Result, Ok, Err}
use Rattle.std.proofs.Math.Option.{Option, none, some}
use Rattle.sizes.specs.Sizes.{bytes_a_tone}
use Rattle.steps.specs.Tones.{Tones, Rising, Table, no_bits, total_bits, total_power, KeepsBudget}
use Rattle.steps.specs.Runs.{Ran, most_bits, set_bits}
use Rattle.line.specs.Arrays.{Arrays, ArraysInRange, Describes}
use Rattle.refusals.specs.declared.Refusal.{Refusal}
use Rattle.refusals.specs.declared.Refusal.TheVariants.{DestinationTooSmall, TargetNotCarried}
use Rattle.refusals.specs.Refusals.{Outcome, success, refusal}
use Rattle.tables.specs.Tables.{table_bytes}
use Rattle.running.specs.declared.Totals.{Totals}

-- A call ends in a table of the tones, with the moves that a re-fit made, or is turned down. A loading answers no moves.
pub data Loading : Type 0 where
  loaded : Tones → Ran → Loading
  turned_down : Refusal → Loading

-- refusal 8: 'under 9 × N bytes'
abbrev pub if_room : Tones → (room : ℕ) → Loading → Loading
if_room T room on = cond (ltb room (bytes_a_tone * T.count)) (turned_down DestinationTooSmall) on

-- Load for most bits, into a buffer of so many bytes.
unfoldable pub most_on : Tones → (budget room : ℕ) → Loading
most_on T budget room = if_room T room (loaded T (most_bits T budget))

-- Load a set number of bits; refusal 11: 'No table within limits and budget carries the target.'
abbrev pub on_target : Tones → Option Table → Loading
on_target T none = turned_down TargetNotCarried
on_target T (some t) = loaded T (record { table = t; moves = 0 })

unfoldable pub target_on : Tones → (budget target room : ℕ) → Loading
target_on T budget target room = if_room T room (on_target T (set_bits T budget target))

-- the totals of a table
abbrev pub totals_of : Tones → Table → Totals
totals_of T t = record { bits = total_bits T t; power = total_power T t }

-- 'It answers total bits and total power too': as a result, and as the paper's numbers.
abbrev pub load_answer : Loading → Result Totals Refusal
load_answer (loaded T r) = Ok (totals_of T r.table)
load_answer (turned_down r) = Err r

abbrev pub load_outcome : Loading → Outcome
load_outcome (loaded T r) = success (total_bits T r.table ∷ total_power T r.table ∷ [])
load_outcome (turned_down r) = refusal 2 r

-- the paper's numbers of each case of the result
abbrev pub load_numbers : Result Totals Refusal → Outcome
load_numbers (Ok t) = success (t.bits ∷ t.power ∷ [])
load_numbers (Err r) = refusal 2 r

-- The buffer afterwards: 'bytes of a longer buffer past those stay as they were', and a refusal 'changes no lent byte'.
abbrev pub after_loading : Loading → (old : List ℕ) → List ℕ
after_loading (loaded T r) old = table_bytes T r.table ++ drop (bytes_a_tone * T.count) old
after_loading (turned_down r) old = old

-- ---- the same of an array of steps: what the code is given

-- The array is in range and describes rising tones T, whose table of no bits keeps the budget.
pub record Loadable (count budget : ℕ) (A : Arrays) (T : Tones) : Type 0 where
  pub in_range : ArraysInRange count A
  pub describes : Describes count A T
  pub rising : Rising T
  pub none_fits : KeepsBudget T budget (no_bits T)

-- there are such tones; and what holds of all such tones
pub record SomeTones (count budget : ℕ) (A : Arrays) : Type 0 where
  pub tones : Tones
  pub loadable : Loadable count budget A tones

abbrev pub ForTones : (count budget : ℕ) → Arrays → (Tones → Type 0) → Type 0
ForTones count budget A P = (T : Tones) → Loadable count budget A T → P T

-- a loading into a buffer: its answer, that in the paper's numbers, and the buffer
pub record LoadsAs (r : Result Totals Refusal) (old new : List ℕ) (on : (room : ℕ) → Loading) : Type 0 where
  pub answer : r ≡ load_answer (on (length old))
  pub numbers : load_numbers r ≡ load_outcome (on (length old))
  pub bytes : new ≡ after_loading (on (length old)) old
