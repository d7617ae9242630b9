-- Tidying as a call that writes bytes of the line.
-- Assumes nothing.
use mathlib.Core.Path.{◌≡◌, refl}
use Prim.Native.Nat.{ℕ}
use Rattle.std.specs.Prelude.{Result}
use Rattle.refusals.specs.declared.Refusal.{Refusal}
use Rattle.refusals.specs.Writing.{Writing, writes, turned_down}
use Rattle.sheet.proofs.Writes.{WritingCall}
use Rattle.tidyform.specs.Tidy.{tidy}
use Rattle.tidy.specs.Tidying.{tidy_answer, tidy_numbers, tidy_outcome}

-- the answer, in the paper's numbers, is the outcome
pub same_numbers : (w : Writing) → tidy_numbers (tidy_answer w) ≡ tidy_outcome w
same_numbers (writes form) = refl
same_numbers (turned_down r) = refl

abbrev pub tidy-writes : WritingCall (Result ℕ Refusal)
tidy-writes = record { bytes = tidy; answer = tidy_answer; numbers = tidy_numbers; outcome = tidy_outcome; same = same_numbers }
