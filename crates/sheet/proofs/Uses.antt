-- What a caller has of what reading answers and leaves: the line that the sheet means, where its tones stand, and its ranges.
-- Assumes nothing.
use mathlib.Core.Bool.{Bool, true, false, cond, true≢false}
use mathlib.Core.List.{List}
use mathlib.Core.Path.{◌≡◌, refl, ap, sym, ◌∙◌}
use Prim.Native.Nat.{ℕ, zero, suc, ◌/◌, ◌%◌, ◌≤◌, ◌<◌}
use native.Mathlib.Omega.{arith}
use lib.Dec.{eqb}
use Rattle.std.specs.Prelude.{Result, Ok, Err, is_err}
use Rattle.sizes.specs.Sizes.{most_tones, word_tones}
use Rattle.silence.specs.Map.{bit, silenced}
use Rattle.line.specs.Line.{Line, entry_rest, rest_of, rest_total, LineInRange}
use Rattle.refusals.specs.declared.Refusal.{Refusal}
use Rattle.refusals.specs.declared.Refusal.TheVariants.{RestsOverBudget}
use Rattle.rows.specs.declared.Header.{Header}
use Rattle.steps.proofs.Sums.{sum-eq}
use Rattle.places.specs.Places.{rest_from, entry_at}
use Rattle.rests.specs.Rests.{rests_sent}
use Rattle.command.specs.Format.{today}
use Rattle.sheet.specs.declared.Index.{Index}
use Rattle.sheet.specs.Reading.{Meaning, accepted, refused, header_of, said, reading}
use Rattle.sheet.specs.Index.{noted_of, empty_index, Indexes, Leaves, ReadsAs, Indexed, answer_of}
use Rattle.sheet.proofs.Turns.{EndsAs}
use Rattle.sheet.proofs.Sound.{Bytes, Sound, said-sound}
use Rattle.sheet.proofs.Rests.{never, rests-over, accepted-is, is-accepted, reading-said}

-- the index of a sheet that is accepted
pub record ReadLine (s : List ℕ) (h : Header) (x : Index) : Type 0 where
  pub index : Indexed s h x
  pub means : reading s ≡ accepted index.line

-- ---- what is answered

-- a header is no refusal
not-both : {P : Type 0} {h : Header} {q : Refusal} → Ok h ≡ Err q → P
not-both e =
    let z : ◌≡◌ {A = ℕ} 0 1 = cc in
    absurd (omega arith)

-- a header is that of a line
record Answered (m : Meaning) (h : Header) : Type 0 where
  line : Line
  means : m ≡ accepted line
  header_is : header_of line ≡ h

answered : (m : Meaning) {h : Header} → Ok h ≡ answer_of m → Answered m h
answered (accepted l) e = record { line = l; means = refl; header_is = cc }
answered (refused q) e = not-both e

-- a refusal is that of the sheet
pub refused-by : (m : Meaning) {q : Refusal} → Err q ≡ answer_of m → m ≡ refused q
refused-by (accepted l) e = not-both (sym e)
refused-by (refused r) e = cc

module _ {s : List ℕ} {x : Index} where
  -- ---- what reading answers and leaves

  -- what the bytes say
  pub said-line : {h : Header} → EndsAs (said s) s (Ok h) x → Indexed s h x
  said-line E = let a = answered (said s) E.answer in record { line = a.line; means = a.means; header_is = a.header_is; indexes = E.index a.line a.means }

  -- a refusal answered, and nothing said of the index
  ends-refused : {q : Refusal} → reading s ≡ refused q → EndsAs (reading s) s (Err q) x
  ends-refused e = record { answer = ap answer_of (sym e); index = λ l f. never (sym e ∙ f) }

  -- a refusal of what the bytes say is one of the sheet
  pub judged-refused : {q : Refusal} → EndsAs (said s) s (Err q) x → EndsAs (reading s) s (Err q) x
  judged-refused {q} E = ends-refused (reading-said today s (refused q) (refused-by (said s) E.answer))

  -- after a refusal the index is made empty; else it stays
  pub leaves-refused : (r : Result Header Refusal) → EndsAs (reading s) s r x → is_err r ≡ true → ReadsAs s r empty_index (reading s)
  leaves-refused (Ok h) E failed = absurd (true≢false (sym failed))
  leaves-refused (Err q) E failed =
      let leaves : Leaves s (Err q) empty_index (refused q) = (refl, refl) in
      record { leaves = rw (refused-by (reading s) E.answer) leaves }

  pub leaves-accepted : (r : Result Header Refusal) → EndsAs (reading s) s r x → is_err r ≡ false → ReadsAs s r x (reading s)
  leaves-accepted (Ok h) E read =
      let a = answered (reading s) E.answer in
      let leaves : Leaves s (Ok h) x (accepted a.line) = (ap Ok (sym a.header_is), E.index a.line a.means) in
      record { leaves = rw a.means leaves }
  leaves-accepted (Err q) E read = absurd (true≢false read)

  -- ---- what a caller learns of it

  pub read-line : {h : Header} → ReadsAs s (Ok h) x (reading s) → ReadLine s h x
  read-line {h} R = by (reading s) refl R.leaves
    where
      by : (m : Meaning) → reading s ≡ m → Leaves s (Ok h) x m → ReadLine s h x
      by (accepted l) means y = record { index = record { line = l; means = (accepted-is today s l means).says; header_is = cc y.0; indexes = y.1 }; means = means }
      by (refused q) means y = not-both y.0

  pub refused-is : {q : Refusal} → ReadsAs s (Err q) x (reading s) → reading s ≡ refused q
  refused-is {q} R = by (reading s) R.leaves
    where
      by : (m : Meaning) → Leaves s (Err q) x m → m ≡ refused q
      by (accepted l) y = not-both (sym y.0)
      by (refused r) y = cc y.0

  -- ---- what an index says of its line

  module _ {l : Line} (X : Indexes s x l) where
    pub silenced-here : (i : ℕ) → silenced l.maps i ≡ silenced x.maps i
    silenced-here i = ap (λ (m : ℕ). eqb (bit m (i % word_tones)) 1) (X.map (i / word_tones))

    -- what the rests add up to is what those of the line do
    pub rests-here : rest_total l ≡ rests_sent s x.tones x.maps l.size
    rests-here = sum-eq l.size (rest_of l) _ (λ i h. rw (silenced-here i, X.entry i) (sent (noted_of x i).own (noted_of x i).rest (noted_of x i).high (silenced x.maps i) (X.no_rest i)))
      where
        sent : (place rest high : ℕ) (q : Bool) → (place ≡ 0 → rest ≡ 0) → entry_rest (entry_at s place rest high) q ≡ cond q 0 (rest_from s rest)
        sent place rest high true h = refl
        sent zero rest high false h = rw (h refl)
        sent (suc p) rest high false h = refl

    pub total-is : {size total : ℕ} → l.size ≡ size → total ≡ rests_sent s x.tones x.maps size → rest_total l ≡ total
    total-is e sum_is_lem = rests-here ∙ ap (λ (n : ℕ). rests_sent s x.tones x.maps n) e ∙ sym sum_is_lem

  module _ {h : Header} (I : Indexed s h x) where
    pub size_is : I.line.size ≡ h.size
    size_is = ap (λ (k : Header). k.size) I.header_is

    pub gap_is : I.line.gap ≡ h.gap
    gap_is = ap (λ (k : Header). k.gap) I.header_is

    pub budget-is : I.line.budget ≡ h.budget
    budget-is = ap (λ (k : Header). k.budget) I.header_is

    module _ (bytes : Bytes s) where
      pub line-sound : Sound I.line
      line-sound = said-sound s bytes I.line I.means

      pub line-in-range : LineInRange I.line
      line-in-range = line-sound.in_range

      pub size_high : h.size ≤ most_tones
      size_high = omega (arith, size_is, line-in-range.size_high)

  -- ---- judging the rests

  module _ {h : Header} (E : EndsAs (said s) s (Ok h) x) {total : ℕ} (sum_is_lem : total ≡ rests_sent s x.tones x.maps h.size) where
    abbrev I : Indexed s h x
    I = said-line E

    -- what was added up is what the rests of the line do
    line-total : rest_total I.line ≡ total
    line-total = total-is I.indexes (size_is I) sum_is_lem

    pub judged-over : h.budget < total → EndsAs (reading s) s (Err RestsOverBudget) x
    judged-over over = ends-refused (reading-said today s (accepted I.line) I.means ∙ rests-over I.line.budget I.line (omega (arith, line-total, budget-is I)))

    pub judged-kept : total ≤ h.budget → EndsAs (reading s) s (Ok h) x
    judged-kept kept = record {
      answer = ap Ok (sym I.header_is) ∙ ap answer_of (sym (is-accepted today s I.line I.means (omega (arith, line-total, budget-is I))));
      index = λ l e. E.index l (accepted-is today s l e).says;
    }
