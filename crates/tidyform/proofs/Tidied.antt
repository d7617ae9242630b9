-- The tidy form of every accepted sheet is accepted and reads as the same line, is its own tidy form, and is no longer than the sheet.
-- Assumes nothing.
use mathlib.Core.Bool.{true, false}
use mathlib.Core.List.{List, []}
use mathlib.Core.Logic.{inl, inr}
use mathlib.Core.Path.{◌≡◌, refl, ap, sym, ◌∙◌}
use Prim.Native.Nat.{ℕ, zero, suc, ◌+◌, ◌≤◌}
use native.Mathlib.Nat.{le_trans}
use native.Mathlib.Omega.{arith}
use lib.ListN.{length}
use Rattle.bigendian.specs.Number.{number}
use Rattle.bigendian.proofs.Numbers.{number_lt}
use Rattle.sizes.specs.Sizes.{size_command, longest_sheet}
use Rattle.line.specs.Line.{none_added, Line, entry_of}
use Rattle.rows.specs.declared.Header.{Header}
use Rattle.rows.specs.Rows.{Operand, describing, numbers, level_operands, ratio_operands, rest, high, width}
use Rattle.rows.specs.Codes.{silence_row}
use Rattle.addresses.specs.Addresses.{code_of, short_of, carried_at}
use Rattle.addresses.proofs.Widths.{IsWidth}
use Rattle.places.specs.Places.{kind_at, tone_at, rest_at, high_at}
use Rattle.command.specs.Format.{today}
use Rattle.command.proofs.Walk.{Each, first-value}
use Rattle.sheet.specs.Reading.{accepted, SoFar, reading}
use Rattle.sheet.proofs.Walk.{Leads, said-by}
use Rattle.sheet.proofs.Rests.{accepted-is}
use Rattle.sheet.proofs.Sound.{Bytes, accepted-sound, accepted-fits, accepted-short}
use Rattle.tidyform.specs.Tidy.{tidy_width, kind_row, gap_bytes, tidy}
use Rattle.tidyform.specs.Claims.{TidyKeeps}
use Rattle.tidyform.proofs.Parts.{tidy-least, length-no-high, length-entry}
use Rattle.tidyform.proofs.Length.{length-parts, length-tenths, length-head, rest-adds, high-adds, tidy-bare, tidy-entry, tidy-silence}
use Rattle.tidyform.proofs.RoundTrip.{tidy-reads}

-- After so many of the first three commands the sheet has their bytes, and after all three those of its line's tidy form but for the
-- end command's.
abbrev Long : (at stage : ℕ) → SoFar → Type 0
Long at zero x = Unit {0}
Long at (suc zero) x = size_command ≤ at
Long at (suc (suc zero)) x = size_command + length (gap_bytes x.line.gap) ≤ at
Long at (suc (suc (suc n))) x = length (tidy x.line) ≤ at + 1

module _ (s : List ℕ) (b : Bytes s) where
  abbrev NoLonger : Line → Type 0
  NoLonger l = length (tidy l) ≤ length s

  -- a tone's number has no more bytes in the tidy form than where it was read
  narrow : (at w : ℕ) → IsWidth w → tidy_width (number s at w) ≤ w
  narrow at w wide = tidy-least (number s at w) w wide (number_lt s at w (λ i k. b (at + i)))

  module _ (at n : ℕ) (x : SoFar) (h : Long at (suc (suc (suc n))) x) where
    describes : (w short : ℕ) (os : List Operand) → IsWidth w → short_of (code_of w short) ≡ short
        → ((v from : ℕ) → width (kind_row v (kind_at short s from)).operands ≡ v + width os)
        → Leads today s Long NoLonger at (suc (suc (suc n))) x (describing w short os)
    describes w short os wide back widths is inside p =
        let i = number s (at + 1) w in
        let first = first-value i [] s (at + 1 + w) os in
        let same = ap (λ (c : ℕ). width (kind_row (tidy_width i) (kind_at c s (carried_at s at))).operands) (ap short_of is ∙ back) ∙ widths (tidy_width i) (carried_at s at) in
        let t = tone_at s at in
        rw first
        (le_trans
        (tidy-entry x.line i _ (1 + width (describing w short os).operands)
        (omega (arith, length-entry i t (none_added t), length-no-high i t, same, narrow (at + 1) w wide)))
        (omega arith))

    rests : (w : ℕ) → IsWidth w → Leads today s Long NoLonger at (suc (suc (suc n))) x (rest w)
    rests w wide is inside p =
        let i = number s (at + 1) w in
        le_trans (tidy-entry x.line i _ (1 + width (rest (tidy_width i)).operands) (rest-adds i (rest_at s at) (entry_of x.line i)))
        (omega (arith, narrow (at + 1) w wide))

    widens : (w : ℕ) → IsWidth w → Leads today s Long NoLonger at (suc (suc (suc n))) x (high w)
    widens w wide is inside p =
        let i = number s (at + 1) w in
        le_trans (tidy-entry x.line i _ (1 + width (high (tidy_width i)).operands) (high-adds i (high_at s at) (entry_of x.line i)))
        (omega (arith, narrow (at + 1) w wide))

    silences : Leads today s Long NoLonger at (suc (suc (suc n))) x silence_row
    silences is inside p = le_trans (tidy-silence x.line s at _ _) (omega arith)

  long : (at stage : ℕ) (x : SoFar) → Long at stage x → Each (Leads today s Long NoLonger at stage x) (today.rows stage)
  long at zero x h = (λ is inside p. omega arith, tt)
  long at (suc zero) x h = (λ is inside p. omega (arith, length-parts (number s (at + 1) 2)), (λ is inside p. omega (arith, length-tenths (number s (at + 1) 1)), tt))
  long at (suc (suc zero)) x h =
      let k : Header = record { size = x.line.size; gap = x.line.gap; budget = number s (at + 1) 8 } in
      (λ is inside p. omega (arith, tidy-bare k, length-head k), tt)
  long at (suc (suc (suc n))) x h = (
    tone 1 4 (numbers false) one refl (λ v from. refl),
    (
      tone 1 5 (numbers true) one refl (λ v from. refl),
      (
        silences at n x h,
        (
          λ is inside p end. omega arith,
          (
            tone 1 9 level_operands one refl (λ v from. refl),
            (
              tone 1 10 ratio_operands one refl (λ v from. refl),
              (
                rests at n x h 1 one,
                (
                  tone 2 4 (numbers false) two refl (λ v from. refl),
                  (
                    tone 2 5 (numbers true) two refl (λ v from. refl),
                    (tone 2 9 level_operands two refl (λ v from. refl), (tone 2 10 ratio_operands two refl (λ v from. refl), (rests at n x h 2 two, (widens at n x h 1 one, (widens at n x h 2 two, tt))))),
                  ),
                ),
              ),
            ),
          ),
        ),
      ),
    ),
  )
    where
      one : IsWidth 1
      one = inl refl

      two : IsWidth 2
      two = inr refl

      tone : (w short : ℕ) (os : List Operand) → IsWidth w → short_of (code_of w short) ≡ short
          → ((v from : ℕ) → width (kind_row v (kind_at short s from)).operands ≡ v + width os)
          → Leads today s Long NoLonger at (suc (suc (suc n))) x (describing w short os)
      tone = describes at n x h

  tidy-no-longer : (l : Line) → reading s ≡ accepted l → NoLonger l
  tidy-no-longer l e = said-by today s Long NoLonger long tt l (accepted-is today s l e).says

pub tidy-keeps : (s : List ℕ) → Bytes s → (l : Line) → reading s ≡ accepted l → TidyKeeps s l
tidy-keeps s b l e = record {
  keeps_line = same;
  returns_tidy = λ k f. ap tidy (line_of k (sym f ∙ same));
  no_longer = tidy-no-longer s b l e;
  short = short;
}
  where
    -- a sheet is no longer than this, and its tidy form no longer than it
    short : length (tidy l) ≤ longest_sheet
    short = le_trans (tidy-no-longer s b l e) (accepted-short s l e)

    same : reading (tidy l) ≡ accepted l
    same = tidy-reads l (accepted-sound s b l e) short (accepted-fits s l e)

    line_of : (k : Line) → accepted k ≡ accepted l → k ≡ l
    line_of k f = cc
