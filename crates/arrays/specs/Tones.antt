-- What reading a sheet into an array of its tones answers and leaves.
-- Assumes nothing.
use Rattle.std.specs.Prelude.{List, ◌≡◌, ℕ, replicate, Result, Ok, Err}
use Rattle.sizes.specs.Sizes.{most_tones}
use Rattle.line.specs.Line.{LineInRange, no_steps}
use Rattle.line.specs.Arrays.{Arrays, ArraysOf}
use Rattle.refusals.specs.declared.Refusal.{Refusal}
use Rattle.rows.specs.declared.Header.{Header}
use Rattle.sheet.specs.declared.Index.{Index}
use Rattle.sheet.specs.Index.{noted_of, Indexed}
use Rattle.sheet.specs.Reading.{Meaning, accepted, refused, header_of}

-- the array has nothing in it: a caller makes it so, where it begins
pub record Blank (A : Arrays) : Type 0 where
  pub none : A ≡ replicate most_tones no_steps

-- What a call asks for that goes by the low noises: an index of the sheet, or what is one with other places of high noises.
pub record IndexedLow (s : List ℕ) (h : Header) (x : Index) : Type 0 where
  pub other : Index
  pub index : Indexed s h other
  pub same_own : (i : ℕ) → (noted_of x i).own ≡ (noted_of other i).own
  pub same_rest : (i : ℕ) → (noted_of x i).rest ≡ (noted_of other i).rest
  pub same_maps : x.maps ≡ other.maps

-- the array is that of the line, if there is one, which is in range
abbrev pub HoldsLineOf : Meaning → Arrays → Type 0
HoldsLineOf (accepted l) A = LineInRange l × ArraysOf l A
HoldsLineOf (refused q) A = Unit {0}

-- The header of the line, which is in range, and its array; or the refusal, and the array as it was.
abbrev pub LeavesTones : Result Header Refusal → (old new : Arrays) → Meaning → Type 0
LeavesTones r old new (accepted l) = (r ≡ Ok (header_of l)) × HoldsLineOf (accepted l) new
LeavesTones r old new (refused q) = (r ≡ Err q) × (new ≡ old)

pub record TonesOf (r : Result Header Refusal) (old new : Arrays) (m : Meaning) : Type 0 where
  pub leaves : LeavesTones r old new m
