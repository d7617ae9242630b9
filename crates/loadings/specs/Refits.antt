-- What a re-fit of a starting table of tones, or one step of it, answers, with refusals 9 and 10. Document 01, 'The loading runs' and
-- 'Why a sheet is turned down'.
-- Assumes nothing.
use Rattle.std.specs.Prelude.{cond, List, [], ◌∷◌, ◌≡◌, ℕ, eqb, length, Option, Some, None, Result, Ok, Err}
use Rattle.steps.specs.Tones.{Tones, Table, total_bits, total_power}
use Rattle.steps.specs.Runs.{Answer, moved, finished, refit_step, Ran, run, refit_run}
use Rattle.line.specs.Arrays.{Arrays}
use Rattle.refusals.specs.declared.Refusal.TheVariants.{StartLengthWrong, StartAboveLimit}
use Rattle.refusals.specs.Refusals.{Outcome, success, refusal}
use Rattle.starts.specs.Starts.{first_above}
use Rattle.refusals.specs.declared.Refusal.{Refusal}
use Rattle.loadings.specs.declared.Refitted.{Refitted}
use Rattle.loadings.specs.Loads.{Loading, loaded, turned_down, if_room, totals_of, after_loading, ForTones}

-- refusal 9: 'A starting table is not N bytes long'; refusal 10: 'A starting table has more bits than a tone's limit'
abbrev pub on_above : Option ℕ → Loading → Loading
on_above (Some i) on = turned_down (StartAboveLimit i)
on_above None on = on

abbrev pub on_start : Tones → (start : List ℕ) → Loading → Loading
on_start T start on = cond (eqb (length start) T.count) (on_above (first_above T start T.count) on) (turned_down StartLengthWrong)

-- refusals 8 to 10 of a re-fit that ends in a run's table
abbrev pub refit_to : Tones → (start : List ℕ) → Ran → (room : ℕ) → Loading
refit_to T start ran room = if_room T room (on_start T start (loaded T ran))

-- Re-fit a starting table, into a buffer of so many bytes.
unfoldable pub refit_on : Tones → (budget : ℕ) → (start : List ℕ) → (room : ℕ) → Loading
refit_on T budget start room = refit_to T start (refit_run T budget start) room

-- One step of the re-fit: 'its move count is 1 or 0'.
abbrev pub stepped : Table → Answer → Ran
stepped t finished = record { table = t; moves = 0 }
stepped t (moved u) = record { table = u; moves = 1 }

unfoldable pub step_on : Tones → (budget : ℕ) → (start : List ℕ) → (room : ℕ) → Loading
step_on T budget start room = refit_to T start (stepped start (refit_step T budget start)) room

-- what the code does for both: at most so many moves
unfoldable pub refit_up_to : (most : ℕ) → Tones → (budget : ℕ) → (start : List ℕ) → (room : ℕ) → Loading
refit_up_to most T budget start room = refit_to T start (run (refit_step T budget) most start) room

-- 'the re-fit writes and answers as a loading does, and its move count besides': as a result, and as the paper's numbers
abbrev pub refit_answer : Loading → Result Refitted Refusal
refit_answer (loaded T r) = Ok (record { totals = totals_of T r.table; moves = r.moves })
refit_answer (turned_down r) = Err r

abbrev pub refit_outcome : Loading → Outcome
refit_outcome (loaded T r) = success (total_bits T r.table ∷ total_power T r.table ∷ r.moves ∷ [])
refit_outcome (turned_down r) = refusal 3 r

-- the paper's numbers of each case of the result
abbrev pub refit_numbers : Result Refitted Refusal → Outcome
refit_numbers (Ok r) = success (r.totals.bits ∷ r.totals.power ∷ r.moves ∷ [])
refit_numbers (Err r) = refusal 3 r

-- a re-fit into a buffer: its answer, that in the paper's numbers, and the buffer
pub record RefitsAs (r : Result Refitted Refusal) (old new : List ℕ) (on : (room : ℕ) → Loading) : Type 0 where
  pub answer : r ≡ refit_answer (on (length old))
  pub numbers : refit_numbers r ≡ refit_outcome (on (length old))
  pub bytes : new ≡ after_loading (on (length old)) old

-- a re-fit by at most so many moves, of all tones that the array describes
abbrev pub RefitsTones : (count most budget : ℕ) → Arrays → (start : List ℕ) → Result Refitted Refusal → (old new : List ℕ) → Type 0
RefitsTones count most budget A start r old new = ForTones count budget A (λ T. RefitsAs r old new (refit_up_to most T budget start))
