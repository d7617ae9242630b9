-- What a call that writes bytes comes to, by its room, and that a refusal leaves the buffer.
-- Assumes nothing.
use mathlib.Core.List.{List}
use mathlib.Core.Path.{◌≡◌, refl}
use Prim.Native.Nat.{ℕ, ◌≤◌, ◌<◌}
use borrow.Author.Tests.{lt-ltb, le-ltb}
use lib.ListN.{length}
use lib.Seq.{sets}
use Rattle.lists.proofs.Stores.{from_start}
use Rattle.refusals.specs.declared.Refusal.{Refusal}
use Rattle.refusals.specs.declared.Refusal.TheVariants.{DestinationTooSmall}
use Rattle.refusals.specs.Writing.{Writing, writes, turned_down, if_fits, after_writing, write_answer, write_outcome, write_numbers}

pub too_small : {room : ℕ} (bytes : List ℕ) → room < length bytes → if_fits room bytes ≡ turned_down DestinationTooSmall
too_small {room} bytes h = rw (lt-ltb room (length bytes) h)

pub fits : {room : ℕ} (bytes : List ℕ) → length bytes ≤ room → if_fits room bytes ≡ writes bytes
fits {room} bytes h = rw (le-ltb room (length bytes) h)

-- stores from the start on are what the call leaves
pub stores-are : (bytes old : List ℕ) → length bytes ≤ length old → sets old 0 bytes ≡ after_writing (writes bytes) old
stores-are bytes old h = from_start bytes old h

pub untouched : (r : Refusal) (old : List ℕ) → after_writing (turned_down r) old ≡ old
untouched r old = refl

-- the answer of a call that only writes, in the paper's numbers, is the outcome
pub same_numbers : (w : Writing) → write_numbers (write_answer w) ≡ write_outcome w
same_numbers (writes bytes) = refl
same_numbers (turned_down r) = refl
