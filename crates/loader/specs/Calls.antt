-- What the loading calls answer and write, for all bytes, all targets and all buffers. Document 01, 'The loading runs' and 'Why a sheet
-- is turned down': the refusals of the sheet, 'then 8 to 11 in number order'.
-- Assumes nothing.
use Rattle.std.specs.Prelude.{List, ℕ}
use Rattle.steps.specs.Tones.{Tones}
use Rattle.line.specs.Line.{tones}
use Rattle.loadings.specs.Loads.{Loading, turned_down, most_on, target_on}
use Rattle.loadings.specs.Refits.{refit_on, step_on, refit_up_to}
use Rattle.sheet.specs.Reading.{Meaning, accepted, refused, reading}

-- the refusals of the sheet come first; then the loading of the line's tones within its budget
abbrev pub on_line : Meaning → (Tones → (budget : ℕ) → Loading) → Loading
on_line (refused r) on = turned_down r
on_line (accepted l) on = on (tones l) l.budget

-- Load for most bits: a sheet, and a buffer of so many bytes.
unfoldable pub load_most : (sheet : List ℕ) → (room : ℕ) → Loading
load_most sheet room = on_line (reading sheet) (λ T budget. most_on T budget room)

-- Load a set number of bits.
unfoldable pub load_target : (sheet : List ℕ) → (target room : ℕ) → Loading
load_target sheet target room = on_line (reading sheet) (λ T budget. target_on T budget target room)

-- Re-fit: a sheet, a starting table, and a buffer.
unfoldable pub refit : (sheet start : List ℕ) → (room : ℕ) → Loading
refit sheet start room = on_line (reading sheet) (λ T budget. refit_on T budget start room)

-- One step of the re-fit.
unfoldable pub one_step : (sheet start : List ℕ) → (room : ℕ) → Loading
one_step sheet start room = on_line (reading sheet) (λ T budget. step_on T budget start room)

-- what the code does for both: at most so many moves
unfoldable pub refit_by : (most : ℕ) → (sheet start : List ℕ) → (room : ℕ) → Loading
refit_by most sheet start room = on_line (reading sheet) (λ T budget. refit_up_to most T budget start room)
