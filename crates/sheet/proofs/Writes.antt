-- How a call ends that writes bytes of the line that a sheet means: by the sheet's refusal, by refusal 8, or with the bytes written.
-- Assumes nothing.
use mathlib.Core.List.{List}
use mathlib.Core.Path.{◌≡◌, sym, ap, ◌∙◌}
use Prim.Native.Nat.{ℕ, ◌≤◌, ◌<◌}
use lib.ListN.{length}
use lib.Seq.{sets}
use Rattle.std.specs.Prelude.{Result}
use Rattle.line.specs.Line.{Line}
use Rattle.refusals.specs.declared.Refusal.{Refusal}
use Rattle.refusals.specs.declared.Refusal.TheVariants.{DestinationTooSmall}
use Rattle.refusals.specs.Refusals.{Outcome}
use Rattle.refusals.specs.Writing.{Writing, writes, turned_down, after_writing, write_answer, write_numbers, write_outcome}
use Rattle.refusals.proofs.Writing.{too_small, fits, stores-are, untouched, same_numbers}
use Rattle.sheet.specs.Reading.{Meaning, accepted, refused}
use Rattle.sheet.specs.Writes.{writing}

-- such a call: the bytes, and what it answers, as its result and in the paper's numbers
pub record WritingCall (A : Type 0) : Type 1 where
  pub bytes : Line → List ℕ
  pub answer : Writing → A
  pub numbers : A → Outcome
  pub outcome : Writing → Outcome
  pub same : (w : Writing) → numbers (answer w) ≡ outcome w

-- one that answers nothing but that the bytes are written
abbrev pub only-writes : (bytes : Line → List ℕ) → WritingCall (Result (Unit {0}) Refusal)
only-writes bytes = record { bytes = bytes; answer = write_answer; numbers = write_numbers; outcome = write_outcome; same = same_numbers }

module _ {A : Type 0} (C : WritingCall A) where
  -- its answer, that in the paper's numbers, and the buffer
  abbrev pub EndsAt : Writing → (out after : List ℕ) → A → Type 0
  EndsAt w out after r = (r ≡ C.answer w) × ((C.numbers r ≡ C.outcome w) × (after ≡ after_writing w out))

  abbrev pub Ends : Meaning → (out after : List ℕ) → A → Type 0
  Ends x out after r = EndsAt (writing C.bytes x (length out)) out after r

  pub ends_at : (w : Writing) (out : List ℕ) {after : List ℕ} {r : A} → r ≡ C.answer w → after ≡ after_writing w out → EndsAt w out after r
  ends_at w out a b = (a, (ap C.numbers a ∙ C.same w, b))

  pub refused-ends : {x : Meaning} (q : Refusal) (out : List ℕ) {r : A} → x ≡ refused q → r ≡ C.answer (turned_down q) → Ends x out out r
  refused-ends q out e a = rw e (ends_at (turned_down q) out a (sym (untouched q out)))

  module _ {x : Meaning} {l : Line} (e : x ≡ accepted l) (out : List ℕ) {r : A} where
    pub short-ends : length out < length (C.bytes l) → r ≡ C.answer (turned_down DestinationTooSmall) → Ends x out out r
    short-ends h a = rw (e, too_small {room = length out} (C.bytes l) h) (ends_at (turned_down DestinationTooSmall) out a (sym (untouched DestinationTooSmall out)))

    pub written-ends : length (C.bytes l) ≤ length out → r ≡ C.answer (writes (C.bytes l)) → Ends x out (sets out 0 (C.bytes l)) r
    written-ends h a = rw (e, fits {room = length out} (C.bytes l) h) (ends_at (writes (C.bytes l)) out a (stores-are (C.bytes l) out h))
