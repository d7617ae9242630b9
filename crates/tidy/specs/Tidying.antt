-- The call that tidies a sheet, for all bytes and all buffers. Document 01: 'Tidying answers its length. Bytes of a longer buffer past
-- those stay as they were'; refusal 8: 'The lent destination is too small', here 'under the tidy length'.
-- Assumes nothing.
use Rattle.std.specs.Prelude.{[], ◌∷◌, ℕ, length, Result, Ok, Err}
use Rattle.refusals.specs.Refusals.{Outcome, success, refusal}
use Rattle.refusals.specs.Writing.{Writing, writes, turned_down}
use Rattle.sheet.specs.Reading.{Meaning}
use Rattle.sheet.specs.Writes.{writing}
use Rattle.tidyform.specs.Tidy.{tidy}
use Rattle.refusals.specs.declared.Refusal.{Refusal}

-- the sheet's refusals, 8, or the tidy form written
abbrev pub tidying : Meaning → (room : ℕ) → Writing
tidying m room = writing tidy m room

-- 'Tidying answers its length': as a result, and as the paper's numbers
abbrev pub tidy_answer : Writing → Result ℕ Refusal
tidy_answer (writes form) = Ok (length form)
tidy_answer (turned_down r) = Err r

abbrev pub tidy_outcome : Writing → Outcome
tidy_outcome (writes form) = success (length form ∷ [])
tidy_outcome (turned_down r) = refusal 1 r

-- the paper's number, place and answer of each case of the result
abbrev pub tidy_numbers : Result ℕ Refusal → Outcome
tidy_numbers (Ok n) = success (n ∷ [])
tidy_numbers (Err r) = refusal 1 r
