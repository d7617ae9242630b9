-- The check of a sheet. Document 01: 'A check of a sheet answers N, the number of described tones and the number of silenced tones.'
-- Assumes nothing.
use Rattle.std.specs.Prelude.{[], ◌∷◌, ℕ, Result, Ok, Err}
use Rattle.silence.specs.Map.{silenced, count}
use Rattle.line.specs.Line.{is_described, Line, entry_of}
use Rattle.refusals.specs.Refusals.{Outcome, success, refusal}
use Rattle.refusals.specs.declared.Refusal.{Refusal}
use Rattle.sheet.specs.declared.Checked.{Checked}
use Rattle.sheet.specs.Reading.{Meaning, accepted, refused}

-- Silenced tones are counted as a set, described or not.
abbrev pub described_count : Line → ℕ
described_count l = count l.size (λ i. is_described (entry_of l i))

abbrev pub silenced_count : Line → ℕ
silenced_count l = count l.size (silenced l.maps)

abbrev pub checking : Meaning → Result Checked Refusal
checking (accepted l) = Ok (record { size = l.size; described = described_count l; silenced = silenced_count l })
checking (refused r) = Err r

-- the paper's number, place and answers of each case
abbrev pub check_numbers : Result Checked Refusal → Outcome
check_numbers (Ok c) = success (c.size ∷ c.described ∷ c.silenced ∷ [])
check_numbers (Err r) = refusal 3 r

-- what a check answers in those numbers: N, described and silenced, or the refusal
abbrev pub check_outcome : Meaning → Outcome
check_outcome (accepted l) = success (l.size ∷ described_count l ∷ silenced_count l ∷ [])
check_outcome (refused r) = refusal 3 r
