-- What a host call returns and writes. Document 01, 'The line sheet': 'There the returned 64-bit number is the refusal number × 2^32 plus
-- the place. On success the other answers .. fill the start of an answer buffer of at least 24 bytes; a refusal does not touch it.'
-- Assumes nothing.
use Rattle.std.specs.Prelude.{cond, List, [], ◌∷◌, ◌++◌, ℕ, ◌+◌, ◌*◌, ◌^◌, eqb, ltb, length, drop, Result, Ok, Err}
use Rattle.sizes.specs.Sizes.{answer_room}
use Rattle.bigendian.specs.Number.{bytes}
use Rattle.refusals.specs.declared.Refusal.TheVariants.{DestinationTooSmall}
use Rattle.refusals.specs.declared.Refusal.{Refusal}
use Rattle.refusals.specs.Refusals.{Outcome, success, refusal}
use Rattle.sheet.specs.Reading.{Meaning, accepted, refused, reading}

abbrev pub code : Outcome → ℕ
code o = o.number * 2 ^ 32 + o.place

-- 'in the order named above, 8 bytes each, high byte first'
unfoldable pub answer_bytes : List ℕ → List ℕ
answer_bytes [] = []
answer_bytes (a ∷ rest) = bytes 8 a ++ answer_bytes rest

-- answers at the start of a buffer, before what stays of it
abbrev pub answers_in : (answers old : List ℕ) → List ℕ
answers_in answers old = answer_bytes answers ++ drop (length (answer_bytes answers)) old

-- the answers that are written: those of a success, none of a refusal
abbrev pub shown : Outcome → List ℕ
shown o = cond (eqb o.number 0) o.answers []

-- the answer buffer afterwards
abbrev pub answered : Outcome → (old : List ℕ) → List ℕ
answered o old = answers_in (shown o) old

-- what a call's result comes to, by the numbers of what it answers; a refusal writes no answers, however many the call has
abbrev pub replied : {A : Type 0} → (numbers : A → List ℕ) → Result A Refusal → Outcome
replied numbers (Ok a) = success (numbers a)
replied numbers (Err r) = refusal 0 r

-- refusal 8: 'in a host call, an answer buffer under 24 bytes', after those of the sheet and before any other
abbrev pub without_room : Meaning → Outcome
without_room (refused r) = refusal 0 r
without_room (accepted l) = refusal 0 DestinationTooSmall

-- refusal 8 comes after the refusals of the sheet and before any other
abbrev pub hosted : (sheet answer : List ℕ) → Outcome → Outcome
hosted sheet answer o = cond (ltb (length answer) answer_room) (without_room (reading sheet)) o

-- without room for the answers no byte of another buffer changes
abbrev pub hosted_buffer : (answer old after : List ℕ) → List ℕ
hosted_buffer answer old after = cond (ltb (length answer) answer_room) old after
