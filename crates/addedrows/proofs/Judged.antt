-- A command that adds to a tone, by what its tone comes to.
-- Assumes nothing.
use mathlib.Core.Bool.{Bool, true, false, cond, true≢false}
use mathlib.Core.List.{List}
use mathlib.Core.Path.{◌≡◌, refl, sym, ap, ◌∙◌}
use Prim.Native.Nat.{ℕ, zero, suc, ◌+◌, ◌<◌}
use native.Mathlib.Omega.{arith}
use lib.Dec.{leb, ltb}
use Rattle.std.specs.Prelude.{is_ok, Result, Ok, Err}
use Rattle.bigendian.specs.Number.{number}
use Rattle.gaps.specs.Gap.{parts}
use Rattle.refusals.specs.declared.Refusal.{Refusal}
use Rattle.refusals.specs.declared.Refusal.TheVariants.{ToneBeyondLine, ToneCannotTake, RestOutOfRange}
use Rattle.places.specs.Places.{entry_at}
use Rattle.noises.specs.Noises.{entry_has_noise, entry_low}
use Rattle.rows.specs.declared.Header.{Header}
use Rattle.rows.specs.declared.Command.{Command}
use Rattle.rows.specs.declared.Command.TheVariants.{Rest, High}
use Rattle.rows.specs.Rows.{is_rest_of, rest, high, row_at}
use Rattle.rows.specs.Codes.{known_at}
use Rattle.rows.proofs.Judging.{out_of_range, rest-operands, high-operands, rest-taken-at, high-taken-at}
use Rattle.addedrows.specs.Adding.{takes_at, adding_to}

-- the command where its tone takes it
abbrev pub or_refused : Result ℕ Refusal → Result Command Refusal → Result Command Refusal
or_refused (Ok tone) c = c
or_refused (Err q) c = Err q

module _ (size tone place : ℕ) where
  -- refusals 5 and 14 before what the operands after the tone come to
  pub adding-judged : (t : Bool) (c : Result Command Refusal)
      → cond (leb size tone) (Err (ToneBeyondLine place)) (cond t c (Err (ToneCannotTake place))) ≡ or_refused (adding_to size tone place t) c
  adding-judged t c = by (leb size tone) t
    where
      by : (u t : Bool)
          → cond u (Err (ToneBeyondLine place)) (cond t c (Err (ToneCannotTake place)))
          ≡ or_refused (cond u (Err (ToneBeyondLine place)) (cond t (Ok tone) (Err (ToneCannotTake place)))) c
      by true t = refl
      by false true = refl
      by false false = refl

  pub adding-tone : (t : Bool) (v : ℕ) → adding_to size tone place t ≡ Ok v → v ≡ tone
  adding-tone t v = by (leb size tone) t
    where
      by : (u t : Bool) → cond u (Err (ToneBeyondLine place)) (cond t (Ok tone) (Err (ToneCannotTake place))) ≡ Ok v → v ≡ tone
      by true t e = cc
      by false true e = cc
      by false false e = cc

  pub adding-taken : (t : Bool) (v : ℕ) → adding_to size tone place t ≡ Ok v → t ≡ true
  adding-taken t v e = by (leb size tone) t (ap is_ok e)
    where
      by : (u t : Bool) → is_ok (cond u (Err (ToneBeyondLine place)) (cond t (Ok tone) (Err (ToneCannotTake place)))) ≡ true → t ≡ true
      by true t h = absurd (true≢false (sym h))
      by false true h = refl
      by false false h = absurd (true≢false (sym h))

-- one that takes it is described
pub taken-there : (place had : ℕ) → takes_at place had ≡ true → 0 < place
taken-there zero had h = absurd (true≢false (sym h))
taken-there (suc p) had h = omega arith

-- both commands: refusals 5 and 14, and then the operand after the tone's number
module _ (h : Header) (s : List ℕ) (at w place rested widened : ℕ) where
  abbrev pub tone_of : ℕ
  tone_of = number s (at + 1) w

  pub rest-adding : row_at h (known_at s place rested widened) s at (rest w)
      ≡ or_refused (adding_to h.size tone_of (at + 1) (takes_at place rested))
      (cond (is_rest_of (parts h.gap) (entry_at s place rested widened) (number s (at + 1 + w) 4)) (Ok (Rest tone_of)) (Err (RestOutOfRange (at + 1 + w))))
  rest-adding =
      rest-operands h (known_at s place rested widened) s at w
      ∙ rw (rest-taken-at s place rested widened) (adding-judged h.size tone_of (at + 1) (takes_at place rested) _)

  pub high-adding : row_at h (known_at s place rested widened) s at (high w)
      ≡ or_refused (adding_to h.size tone_of (at + 1) (takes_at place widened))
      (cond (entry_has_noise (entry_at s place rested widened))
      (cond (ltb (number s (at + 1 + w) 2) (entry_low (entry_at s place rested widened))) (out_of_range (at + 1 + w)) (Ok (High tone_of)))
      (out_of_range (at + 1)))
  high-adding =
      high-operands h (known_at s place rested widened) s at w
      ∙ rw (high-taken-at s place rested widened) (adding-judged h.size tone_of (at + 1) (takes_at place widened) _)
