-- Runs of stores, one after the other: what the commands of a tone leave in a lent buffer.
-- Assumes nothing.
use mathlib.Core.Path.{◌≡◌, refl, ap, ◌∙◌}
use mathlib.Core.List.{List, ◌++◌}
use Prim.Native.Nat.{ℕ, zero, suc, ◌+◌, ◌≤◌}
use native.Mathlib.Numerals.{add-one}
use native.Mathlib.Omega.{arith}
use lib.ListN.{length, get_or, set, take, drop, length-drop}
use lib.Seq.{sets, take-suc, get_or-drop}
use Rattle.lists.specs.Joined.{joined_below}
use Rattle.bigendian.specs.Number.{bytes}
use Rattle.bigendian.proofs.Numbers.{length-bytes}
use Rattle.lists.proofs.Stores.{sets-append}
use Rattle.addresses.specs.Addresses.{code_of, short_of, carried_at}
use Rattle.places.specs.declared.Noted.{Noted}
use Rattle.tidyform.specs.Tidy.{tidy_width}
use Rattle.tidylengths.specs.Copies.{part, carried_bytes, command_copy, tone_copy, entry_copy, kept}
use Rattle.tidylengths.proofs.Commands.{entry-kept}

-- a number, and what comes after it at j
pub sets-bytes : (l : List ℕ) (i w v : ℕ) (rest : List ℕ) (j : ℕ) → i + w ≡ j → sets l i (bytes w v ++ rest) ≡ sets (sets l i (bytes w v)) j rest
sets-bytes l i w v rest j e =
    let k : i + length (bytes w v) ≡ j = omega (arith, length-bytes w v) in
    rw k at (sets-append l i (bytes w v) rest)

-- what a sheet lends from a place on is that part of it
pub part-lent : (s : List ℕ) (at w : ℕ) → at + w ≤ length s → take w (drop at s) ≡ part s at w
unfolding joined_below
part-lent s at zero h = refl
part-lent s at (suc w) h =
    take-suc (drop at s) w 0 (omega (arith, length-drop at s)) ∙ rw (part-lent s at w (omega arith), get_or-drop at s w 0) refl

-- a command
pub command-stores : (s : List ℕ) (i place : ℕ) (out : List ℕ) (at : ℕ) → sets out at (command_copy s i place)
    ≡ (let w = tidy_width i in
    sets (sets (set out at (code_of w (short_of (get_or s place 0)))) (at + 1) (bytes w i)) (at + 1 + w) (part s (carried_at s place) (carried_bytes (get_or s place 0))))
command-stores s i place out at = rw (add-one at) (sets-bytes _ (suc at) (tidy_width i) i _ (suc at + tidy_width i) refl)

-- the commands of a tone that are kept, each at the end of the one before
pub entry-stores : (s : List ℕ) (i : ℕ) (n : Noted) {k : Noted} → k ≡ kept s n → (out : List ℕ) (at : ℕ)
    → (let own = tone_copy s i k.own in
    let rests = tone_copy s i k.rest in
    sets out at (entry_copy s i n.own n.rest n.high)
    ≡ sets (sets (sets out at own) (at + length own) rests) (at + length own + length rests) (tone_copy s i k.high))
entry-stores s i n {k} is out at =
    ap (sets out at) (entry-kept s i n is)
    ∙ sets-append out at (tone_copy s i k.own) (tone_copy s i k.rest ++ tone_copy s i k.high)
    ∙ sets-append _ (at + length (tone_copy s i k.own)) (tone_copy s i k.rest) (tone_copy s i k.high)
