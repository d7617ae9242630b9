-- A call that writes bytes from the start of a lent buffer on. Document 01: 'Bytes of a longer buffer past those stay as they were'; a
-- refusal 'changes no lent byte'; refusal 8: 'The lent destination is too small'.
-- Assumes nothing.
use Rattle.std.specs.Prelude.{cond, List, [], ◌++◌, ℕ, ltb, length, drop, Result, Ok, Err}
use Rattle.refusals.specs.declared.Refusal.{Refusal}
use Rattle.refusals.specs.declared.Refusal.TheVariants.{DestinationTooSmall}
use Rattle.refusals.specs.Refusals.{Outcome, success, refusal}

-- The call writes these bytes, or is turned down.
pub data Writing : Type 0 where
  writes : (bytes : List ℕ) → Writing
  turned_down : Refusal → Writing

-- refusal 8: the bytes do not fit a buffer of so many
abbrev pub if_fits : (room : ℕ) → (bytes : List ℕ) → Writing
if_fits room bytes = cond (ltb room (length bytes)) (turned_down DestinationTooSmall) (writes bytes)

-- the buffer afterwards
abbrev pub after_writing : Writing → (old : List ℕ) → List ℕ
after_writing (writes bytes) old = bytes ++ drop (length bytes) old
after_writing (turned_down r) old = old

-- A call that only writes answers nothing but that the bytes are written: as a result, and as the paper's numbers.
abbrev pub write_answer : Writing → Result (Unit {0}) Refusal
write_answer (writes bytes) = Ok tt
write_answer (turned_down r) = Err r

abbrev pub write_outcome : Writing → Outcome
write_outcome (writes bytes) = success []
write_outcome (turned_down r) = refusal 0 r

-- the paper's number, place and answers of each case of the result
abbrev pub write_numbers : Result (Unit {0}) Refusal → Outcome
write_numbers (Ok done) = success []
write_numbers (Err r) = refusal 0 r
