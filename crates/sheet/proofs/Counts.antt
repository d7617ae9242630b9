-- What a check counts in an index is what it counts of the line.
-- Assumes nothing.
use mathlib.Core.Bool.{false}
use mathlib.Core.List.{List}
use mathlib.Core.Path.{◌≡◌, refl, ap, sym, ◌∙◌}
use Prim.Native.Nat.{ℕ, ◌/◌, ◌%◌, ◌≤◌}
use native.Mathlib.Omega.{arith}
use lib.Dec.{ltb, eqb}
use lib.ListN.{get_or}
use Rattle.std.specs.Prelude.{Result, Ok}
use Rattle.sizes.specs.Sizes.{most_tones, word_tones}
use Rattle.silence.specs.Map.{bit, silenced, count}
use Rattle.silence.proofs.Maps.{count_same, count_past}
use Rattle.line.specs.Line.{Line}
use Rattle.refusals.specs.declared.Refusal.{Refusal}
use Rattle.rows.specs.declared.Header.{Header}
use Rattle.sheet.specs.declared.Checked.{Checked}
use Rattle.sheet.specs.declared.Index.{Index}
use Rattle.sheet.specs.Reading.{Meaning, accepted, refused, reading}
use Rattle.sheet.specs.Check.{described_count, silenced_count, checking, check_numbers, check_outcome}
use Rattle.sheet.specs.Index.{noted_of, Indexes}
use Rattle.sheet.proofs.Sound.{Bytes, Sound}
use Rattle.sheet.proofs.Notes.{described-here}
use Rattle.sheet.proofs.Uses.{ReadLine, silenced-here, size_is, line-sound}

module _ {s : List ℕ} {x : Index} where
  described-count : {l : Line} → Indexes s x l → described_count l ≡ count l.size (λ i. ltb 0 (noted_of x i).own)
  described-count {l} X = count_same l.size _ _ (λ i h. described-here X i)

  -- no tone from N on is silenced, so that all that the maps name can be counted
  silenced-count : {l : Line} → Indexes s x l → Sound l → silenced_count l ≡ count most_tones (silenced x.maps)
  silenced-count {l} X z =
      sym (count_past l.size most_tones (silenced l.maps) z.in_range.size_high beyond)
      ∙ count_same most_tones _ _ (λ i h. silenced-here X i)
    where
      beyond : (i : ℕ) → l.size ≤ i → silenced l.maps i ≡ false
      beyond i h =
          let clear : bit (get_or l.maps (i / word_tones) 0) (i % word_tones) ≡ 0 = z.maps_within (i / word_tones) (i % word_tones) (omega arith) in
          ap (λ (b : ℕ). eqb b 1) clear

  pub counts-are : {h : Header} → ReadLine s h x → Bytes s → {a b : ℕ} → a ≡ count h.size (λ i. ltb 0 (noted_of x i).own) → b ≡ count most_tones (silenced x.maps)
      → Ok (record { size = h.size; described = a; silenced = b }) ≡ checking (reading s)
  counts-are {h} R bytes {a} {b} p q =
      let l = R.index.line in
      let size : l.size ≡ h.size = size_is R.index in
      let described : a ≡ described_count l = p ∙ ap (λ (n : ℕ). count n (λ i. ltb 0 (noted_of x i).own)) (sym size) ∙ sym (described-count R.index.indexes) in
      let silenced : b ≡ silenced_count l = q ∙ sym (silenced-count R.index.indexes (line-sound R.index bytes)) in
      rw R.means (cc)

-- a check's answer, in the paper's numbers, is the outcome that the reading gives
pub check-numbers : (m : Meaning) {c : Result Checked Refusal} → c ≡ checking m → record { answer : c ≡ checking m; numbers : check_numbers c ≡ check_outcome m }
check-numbers m {c} e = record { answer = e; numbers = ap check_numbers e ∙ same m }
  where
    same : (y : Meaning) → check_numbers (checking y) ≡ check_outcome y
    same (accepted l) = refl
    same (refused r) = refl
