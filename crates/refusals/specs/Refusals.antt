-- Document 01, 'Why a sheet is turned down', and document 02, W5 and W6: the number and the place of each refusal.
-- Assumes nothing.
use Rattle.std.specs.Prelude.{List, ℕ, replicate}
use Rattle.refusals.specs.declared.Refusal.{Refusal}
use Rattle.refusals.specs.declared.Refusal.TheVariants.{SheetTooLong, SheetEnds, CommandNotAllowed, OperandOutOfRange, ToneBeyondLine, ToneRepeated, BytesAfterEnd, DestinationTooSmall, StartLengthWrong, StartAboveLimit, TargetNotCarried, FloatOutOfRange, CostOutOfRange, ToneCannotTake, RestOutOfRange, RestsOverBudget}

abbrev pub refusal_number : Refusal → ℕ
refusal_number SheetTooLong = 1
refusal_number (SheetEnds length) = 2
refusal_number (CommandNotAllowed place) = 3
refusal_number (OperandOutOfRange place) = 4
refusal_number (ToneBeyondLine place) = 5
refusal_number (ToneRepeated place) = 6
refusal_number (BytesAfterEnd place) = 7
refusal_number DestinationTooSmall = 8
refusal_number StartLengthWrong = 9
refusal_number (StartAboveLimit tone) = 10
refusal_number TargetNotCarried = 11
refusal_number (FloatOutOfRange place) = 12
refusal_number (CostOutOfRange place) = 13
refusal_number (ToneCannotTake place) = 14
refusal_number (RestOutOfRange place) = 15
refusal_number RestsOverBudget = 16

abbrev pub refusal_place : Refusal → ℕ
refusal_place SheetTooLong = 0
refusal_place (SheetEnds length) = length
refusal_place (CommandNotAllowed place) = place
refusal_place (OperandOutOfRange place) = place
refusal_place (ToneBeyondLine place) = place
refusal_place (ToneRepeated place) = place
refusal_place (BytesAfterEnd place) = place
refusal_place DestinationTooSmall = 0
refusal_place StartLengthWrong = 0
refusal_place (StartAboveLimit tone) = tone
refusal_place TargetNotCarried = 0
refusal_place (FloatOutOfRange place) = place
refusal_place (CostOutOfRange place) = place
refusal_place (ToneCannotTake place) = place
refusal_place (RestOutOfRange place) = place
refusal_place RestsOverBudget = 0

-- What a call answers in document 01's numbers: 'Each refusal answers its number and a place, all other numbers 0 .. Success answers
-- number 0 and place 0.'
pub record Outcome : Type 0 where
  pub number : ℕ
  pub place : ℕ
  pub answers : List ℕ

abbrev pub success : (answers : List ℕ) → Outcome
success answers = record { number = 0; place = 0; answers = answers }

-- of a call that has so many answers
abbrev pub refusal : (count : ℕ) → Refusal → Outcome
refusal count r = record { number = refusal_number r; place = refusal_place r; answers = replicate count 0 }
