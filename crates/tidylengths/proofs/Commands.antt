-- The commands of a tone as they are copied: which are there, which of them the tidy form keeps, and how many bytes they have.
-- Assumes nothing.
use mathlib.Core.Bool.{Bool, true, false, cond}
use mathlib.Core.Path.{◌≡◌, refl, ap}
use mathlib.Core.List.{List, [], ◌++◌}
use Prim.Native.Nat.{ℕ, zero, suc, ◌+◌, ◌≤◌, ◌<◌}
use native.Mathlib.Omega.{arith}
use borrow.Author.Tests.{eq-eqb}
use lib.Dec.{eqb}
use lib.ListN.{length, get_or, length-append}
use Rattle.lists.proofs.Joined.{length-even}
use Rattle.bigendian.proofs.Numbers.{length-bytes}
use Rattle.line.specs.Tone.{noise_of}
use Rattle.places.specs.declared.Noted.{Noted}
use Rattle.places.specs.Places.{tone_at, rest_from, high_from}
use Rattle.tidyform.specs.Tidy.{tidy_width}
use Rattle.tidylengths.specs.Copies.{byte_from, part, Inside, carried_bytes, command_copy, tone_copy, rest_copy, high_copy, entry_copy, AllInside, kept}

pub length_part : (s : List ℕ) (at w : ℕ) → length (part s at w) ≡ w
length_part s at w = omega (arith, length-even (byte_from s at) 1 (λ k. refl) w)

pub length-command : (s : List ℕ) (i place : ℕ) → length (command_copy s i place) ≡ 1 + tidy_width i + carried_bytes (get_or s place 0)
length-command s i place = simp (length-append, length-bytes, length_part) (omega arith)

-- the one at a place, or none
pub some-copy : (s : List ℕ) (i place : ℕ) → 0 < place → tone_copy s i place ≡ command_copy s i place
some-copy s i zero h = absurd (omega arith)
some-copy s i (suc p) h = refl

pub no_copy : (s : List ℕ) (i place : ℕ) → place ≤ 0 → tone_copy s i place ≡ []
no_copy s i zero h = refl
no_copy s i (suc p) h = absurd (omega arith)

-- ---- the commands that the tidy form keeps

-- a command that is left out has no place
copy-unless : (s : List ℕ) (i p : ℕ) (out : Bool) → tone_copy s i (cond out 0 (suc p)) ≡ cond out [] (command_copy s i (suc p))
copy-unless s i p true = refl
copy-unless s i p false = refl

rest-kept : (s : List ℕ) (i rest : ℕ) → tone_copy s i (cond (eqb (rest_from s rest) 0) 0 rest) ≡ rest_copy s i rest
rest-kept s i zero = refl
rest-kept s i (suc p) = copy-unless s i p (eqb (rest_from s (suc p)) 0)

high-kept : (s : List ℕ) (i own high : ℕ) → (let noise = noise_of (tone_at s own).kind in
    tone_copy s i (cond (eqb (high_from s (tone_at s own) high) noise) 0 high) ≡ high_copy s i own high)
high-kept s i own zero = rw (eq-eqb (noise_of (tone_at s own).kind) (noise_of (tone_at s own).kind) refl)
high-kept s i own (suc p) = copy-unless s i p (eqb (high_from s (tone_at s own) (suc p)) (noise_of (tone_at s own).kind))

-- the commands of a tone are those at the places that are kept, the one straight after the other
module _ (s : List ℕ) (i : ℕ) (n : Noted) {k : Noted} (is : k ≡ kept s n) where
  pub entry-kept : entry_copy s i n.own n.rest n.high ≡ tone_copy s i k.own ++ (tone_copy s i k.rest ++ tone_copy s i k.high)
  entry-kept = rw (is, rest-kept s i n.rest, high-kept s i n.own n.high) refl

  pub length-kept : length (entry_copy s i n.own n.rest n.high) ≡ length (tone_copy s i k.own) + length (tone_copy s i k.rest) + length (tone_copy s i k.high)
  length-kept =
      omega (
        arith,
        ap length entry-kept,
        length-append (tone_copy s i k.own) (tone_copy s i k.rest ++ tone_copy s i k.high),
        length-append (tone_copy s i k.rest) (tone_copy s i k.high),
      )

-- none of a tone of which nothing is noted
pub nothing-kept : (s : List ℕ) (i own rest high : ℕ) → own ≤ 0 → rest ≤ 0 → high ≤ 0 → entry_copy s i own rest high ≡ []
nothing-kept s i zero zero zero o r h = rw (eq-eqb (noise_of (tone_at s 0).kind) (noise_of (tone_at s 0).kind) refl)
nothing-kept s i (suc p) rest high o r h = absurd (omega arith)
nothing-kept s i zero (suc p) high o r h = absurd (omega arith)
nothing-kept s i zero zero (suc p) o r h = absurd (omega arith)

-- they are all there, as those of the tone are
inside-unless : (s : List ℕ) (out : Bool) (place : ℕ) → Inside s place → Inside s (cond out 0 place)
inside-unless s true place inside = record { numbered = λ h. absurd (omega arith); whole = λ h. absurd (omega arith) }
inside-unless s false place inside = inside

pub kept-inside : (s : List ℕ) (n : Noted) {k : Noted} → k ≡ kept s n → AllInside s n → AllInside s k
kept-inside s n is inside =
    rw is record { own = inside.own; rest = inside-unless s _ n.rest inside.rest; high = inside-unless s _ n.high inside.high }
