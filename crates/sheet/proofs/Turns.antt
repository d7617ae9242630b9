-- The reading, command by command: what remains of it gives what the whole gives, and the index is one of the line so far. Laws:
--   starts                             it starts with an empty index
--   heard                              what is known of the command that was decoded
--   on-head, on-describe, on-rest,     it goes on after a command
--   on-high, on-silence
--   on-refused, on-more, on-end        it ends with one
-- Assumes nothing.
use mathlib.Core.Bool.{Bool, true, cond}
use mathlib.Core.List.{List}
use mathlib.Core.Path.{◌≡◌, refl, ap, sym, ◌∙◌}
use Prim.Native.Nat.{ℕ, zero, suc, ◌+◌, ◌-◌, ◌^◌, ◌≤◌, ◌<◌}
use native.Mathlib.Decide.{dec_le, dec_lt, ℕ_discrete}
use native.Mathlib.Nat.{not-suc-le-zero}
use native.Mathlib.Numerals.{add-one}
use native.Mathlib.Omega.{arith}
use borrow.Author.Tests.{le-ltb, lt-ltb, eq-eqb, ne_eqb}
use lib.Dec.{ltb, eqb}
use lib.ListN.{length, length-set, length-replicate}
use lib.Seq.{get_or-set_same, get_or-set_other}
use Rattle.std.specs.Prelude.{Result, Ok, Err}
use Rattle.sizes.specs.Sizes.{most_tones, words_of, longest_sheet}
use Rattle.gaps.specs.declared.Gap.TheVariants.{Parts}
use Rattle.gaps.specs.Gap.{parts}
use Rattle.line.specs.Line.{Entry, undescribed, EntryInRange, Line, gap_of, entry_of}
use Rattle.refusals.specs.declared.Refusal.{Refusal}
use Rattle.refusals.specs.declared.Refusal.TheVariants.{BytesAfterEnd}
use Rattle.rows.specs.declared.Header.{Header}
use Rattle.rows.specs.declared.Command.{Command}
use Rattle.rows.specs.declared.Command.TheVariants.{End, Head, Describe, Rest, High, Silence}
use Rattle.rows.specs.declared.Decoded.{Decoded}
use Rattle.addresses.specs.Addresses.{addressed}
use Rattle.places.specs.declared.Noted.{Noted}
use Rattle.places.specs.Places.{entry_noted, nowhere}
use Rattle.rows.specs.Codes.{known_noted}
use Rattle.command.specs.Format.{today, command_at}
use Rattle.command.proofs.Said.{There, Said, command-said}
use Rattle.sheet.specs.declared.Index.{Index}
use Rattle.sheet.specs.Reading.{Meaning, accepted, refused, header_of, bare_line, with_entry, SoFar, nothing, so_far_after, Next, stop, go, known_of, command_in, after_decoded, read_on, read_from, said_in, said}
use Rattle.sheet.specs.Index.{noted_of, empty_index, Indexes, answer_of}
use Rattle.sheet.proofs.Walk.{after_one}
use Rattle.sheet.proofs.Rests.{never}
use Rattle.sheet.proofs.Sound.{Bytes, Sound, Along, kept, all-in-range}
use Rattle.sheet.proofs.Notes.{with_noted, with_map, owned, rested, widened, nothing-noted, notes-head, notes-describe, notes-rest, notes-high, notes-silence, no_place, has-place, described-takes}

-- a line has an entry for each tone, and a map for each word
pub record Sized (l : Line) : Type 0 where
  pub entries_sized : length l.entries ≡ l.size
  pub maps_sized : length l.maps ≡ words_of l.size

-- The reading has come to a place, after so many of the first three commands, with a line so far, which is sound, and an index of it. What
-- remains gives what the whole gives, unless the sheet is too long: then every command is refused.
pub record Going (s : List ℕ) (x : Index) (h : Header) (at stage : ℕ) : Type 0 where
  pub most : ℕ
  pub sofar : SoFar
  pub sized : Sized sofar.line
  pub sound : Along at stage sofar
  pub header_is : header_of sofar.line ≡ h
  pub index : Indexes s x sofar.line
  pub rested_is : (i : ℕ) → sofar.rested i ≡ ltb 0 (noted_of x i).rest
  pub widened_is : (i : ℕ) → sofar.widened i ≡ ltb 0 (noted_of x i).high
  pub empty : stage < 3 → x ≡ empty_index
  pub low : stage ≤ 3
  pub past : stage ≤ at
  pub inside : at ≤ length s
  pub enough : length s < most + at
  pub same : length s ≤ longest_sheet → read_from today most s at stage sofar ≡ said s

-- what reading to a meaning answers and leaves; where the sheet is refused, nothing is said of the index
abbrev pub EndsAs : (m : Meaning) → List ℕ → Result Header Refusal → Index → Type 0
EndsAs m s r x = record { answer : r ≡ answer_of m; index : (l : Line) → m ≡ accepted l → Indexes s x l }

sized-bare : (h : Header) → Sized (bare_line h)
sized-bare h = record { entries_sized = length-replicate h.size undescribed; maps_sized = length-replicate {A = ℕ} (words_of h.size) 0 }

pub starts : (s : List ℕ) → Going s empty_index (record { size = 0; gap = Parts 0; budget = 0 }) 0 0
unfolding said_in
starts s = record {
  most = suc (length s);
  sofar = nothing;
  sized = sized-bare _;
  sound = tt;
  header_is = refl;
  index = notes-head s _;
  rested_is = λ i. ap (λ (n : Noted). ltb 0 n.rest) (sym (nothing-noted i));
  widened_is = λ i. ap (λ (n : Noted). ltb 0 n.high) (sym (nothing-noted i));
  empty = λ l. refl;
  low = omega arith;
  past = omega arith;
  inside = omega arith;
  enough = omega arith;
  same = λ h. simp (le-ltb _ _ h);
}

one-command : (most : ℕ) (s : List ℕ) (at stage : ℕ) (x : SoFar) → 0 < most
    → read_from today most s at stage x ≡ read_on (after_decoded (command_in today x s at stage) s at stage x) (read_from today (most - 1) s)
unfolding read_from
one-command zero s at stage x h = absurd (not-suc-le-zero h)
one-command (suc most) s at stage x h =
    let e : suc most - 1 ≡ most = omega arith in
    ap (λ (k : ℕ). read_on (after_decoded (command_in today x s at stage) s at stage x) (read_from today k s)) (sym e)

module _ {s : List ℕ} {x : Index} {h : Header} {at stage : ℕ} (g : Going s x h at stage) where
  -- after the first three commands the line is sound, so it has no more tones than a line may have
  sound-late : 3 ≤ stage → Sound g.sofar.line
  sound-late late =
      let three : stage ≡ 3 = omega (arith, g.low) in
      rw three at g.sound

  tone-small : {i : ℕ} → 3 ≤ stage → i < g.sofar.line.size → i < most_tones
  tone-small late h = omega (arith, (sound-late late).in_range.size_high)

  -- a tone that is described so far is in range: in a line that is sound, or none is
  pub known-in-range : (i : ℕ) → EntryInRange (parts h.gap) (entry_noted s (noted_of x i))
  known-in-range i = by (dec_lt stage 3)
    where
      by : Dec (stage < 3) → EntryInRange (parts h.gap) (entry_noted s (noted_of x i))
      by (yes e) =
          let none : noted_of x i ≡ nowhere = ap (λ (y : Index). noted_of y i) (g.empty e) ∙ nothing-noted i in
          rw none tt
      by (no m) =
          let gap : gap_of g.sofar.line ≡ parts h.gap = ap (λ (k : Header). parts k.gap) g.header_is in
          rw (gap, g.index.entry i) at (all-in-range (sound-late (omega arith)) i)

  -- what is decoded at the place, with what is noted of the tone that the command addresses
  abbrev pub Met : Decoded → Type 0
  Met d = d ≡ command_at today h (known_noted s (noted_of x (addressed s at))) s at stage

  module _ {d : Decoded} (e : Met d) where
    -- what was decoded by what is noted of the tone is the command of what the reading remembers
    matches : d ≡ command_at today (header_of g.sofar.line) (known_of g.sofar (addressed s at)) s at stage
    matches = cc (g.index.entry (addressed s at), g.rested_is (addressed s at), g.widened_is (addressed s at))

    -- in a sheet that is not too long
    here : length s ≤ longest_sheet → d ≡ command_in today g.sofar s at stage
    unfolding command_at
    here short = matches ∙ simp (le-ltb longest_sheet (length s) short)

    -- what the reading comes to after this command is what the whole comes to; where the sheet is too long, both are refusal 1
    after : (n : Next) → after_decoded d s at stage g.sofar ≡ n → read_on n (read_from today (g.most - 1) s) ≡ said s
    unfolding said_in command_at
    after n o = rw (sym o) (by (dec_le (length s) longest_sheet))
      where
        by : Dec (length s ≤ longest_sheet) → read_on (after_decoded d s at stage g.sofar) (read_from today (g.most - 1) s) ≡ said s
        by (yes short) = rw (here short) (sym (one-command g.most s at stage g.sofar (omega arith)) ∙ g.same short)
        by (no m) =
            let long : longest_sheet < length s = omega arith in
            simp (matches, lt-ltb longest_sheet (length s) long)

    -- the reading ends with this command
    ends : (m : Meaning) → after_decoded d s at stage g.sofar ≡ stop m → ((l : Line) → m ≡ accepted l → Indexes s x l) → EndsAs (said s) s (answer_of m) x
    ends m o k = record { answer = ap answer_of (after (stop m) o); index = λ l q. k l (after (stop m) o ∙ q) }

    -- after a refusal the index is of no line
    refuses : (q : Refusal) → after_decoded d s at stage g.sofar ≡ stop (refused q) → EndsAs (said s) s (Err q) x
    refuses q o = ends (refused q) o (λ l f. never f)

    pub on-refused : (q : Refusal) → d.command ≡ Err q → EndsAs (said s) s (Err q) x
    on-refused q f = refuses q (simp f)

    pub heard : (c : Command) → d.command ≡ Ok c → Said (header_of g.sofar.line) (known_of g.sofar (addressed s at)) s at stage d.next c
    heard c f = rw f at (rw (sym matches) at (command-said (header_of g.sofar.line) (known_of g.sofar (addressed s at)) s at stage))

    pub on-more : d.command ≡ Ok End → d.next < length s → EndsAs (said s) s (Err (BytesAfterEnd d.next)) x
    on-more f l = refuses (BytesAfterEnd d.next) (simp (f, lt-ltb _ _ l))

    pub on-end : d.command ≡ Ok End → length s ≤ d.next → EndsAs (said s) s (Ok h) x
    on-end f l = rw (sym g.header_is) (ends (accepted g.sofar.line) (simp (f, le-ltb _ _ l)) (λ m q. same m q))
      where
        same : (m : Line) → accepted g.sofar.line ≡ accepted m → Indexes s x m
        same m q =
            let is : g.sofar.line ≡ m = cc in
            rw is at g.index

    -- a tone that a command describes, or gives its rest or its high noise, is one of those that an index has
    pub described-small : (i : ℕ) → d.command ≡ Ok (Describe i) → i < most_tones
    described-small i f = let k = heard _ f in tone-small k.late k.of_line

    pub rested-small : (i : ℕ) → d.command ≡ Ok (Rest i) → i < most_tones
    rested-small i f = let k = heard _ f in tone-small k.late k.of_line

    pub widened_small : (i : ℕ) → d.command ≡ Ok (High i) → i < most_tones
    widened_small i f = let k = heard _ f in tone-small k.late k.of_line

    -- it goes on after this command
    goes_on : Bytes s → {x' : Index} {h' : Header} {stage' : ℕ} (y : SoFar) → There (length s) at d.next → after_decoded d s at stage g.sofar ≡ go d.next stage' y
        → Sized y.line → header_of y.line ≡ h' → Indexes s x' y.line → ((i : ℕ) → y.rested i ≡ ltb 0 (noted_of x' i).rest) → ((i : ℕ) → y.widened i ≡ ltb 0 (noted_of x' i).high)
        → (stage' < 3 → x' ≡ empty_index) → stage' ≤ 3 → stage' ≤ d.next
        → Going s x' h' d.next stage'
    goes_on bytes y there o sized is index rested widened empty low past = record {
      most = g.most - 1;
      sofar = y;
      sized = sized;
      sound = rw o at (rw (sym (here there.short)) at (after_one today s Along Sound (kept s bytes) at stage g.sofar g.sound));
      header_is = is;
      index = index;
      rested_is = rested;
      widened_is = widened;
      empty = empty;
      low = low;
      past = past;
      inside = there.inside;
      enough = omega arith;
      same = λ short. after (go d.next _ y) o;
    }

    pub on-head : Bytes s → (h' : Header) → d.command ≡ Ok (Head h') → Going s x h' d.next (stage + 1)
    on-head bytes h' f =
        let k = heard _ f in
        let index : Indexes s x (bare_line h') = rw (g.empty k.early) (notes-head s h') in
        rw (add-one stage)
        (goes_on bytes (so_far_after (Head h') s at g.sofar) k.there (simp f) (sized-bare h') refl index g.rested_is g.widened_is (λ l. g.empty (omega arith)) (omega arith) (omega arith))

    -- a line keeps its sizes where a tone's entry is another
    sized-entry : (i : ℕ) (e : Entry) → Sized (with_entry g.sofar.line i e)
    sized-entry i e = record { entries_sized = length-set g.sofar.line.entries i _ ∙ g.sized.entries_sized; maps_sized = g.sized.maps_sized }

    -- something else is noted of a tone
    module _ {i : ℕ} (small : i < most_tones) (n : Noted) where
      there : i < length x.tones
      there = omega (arith, g.index.tones_sized)

      -- of a place that stays, what is remembered stays
      keeps : (f : Noted → ℕ) {had : ℕ → Bool} → ((j : ℕ) → had j ≡ ltb 0 (f (noted_of x j))) → f n ≡ f (noted_of x i) → (j : ℕ) → had j ≡ ltb 0 (f (noted_of (with_noted x i n) j))
      keeps f {had} same stays j = by (ℕ_discrete j i)
        where
          by : Dec (j ≡ i) → had j ≡ ltb 0 (f (noted_of (with_noted x i n) j))
          by (yes q) = same j ∙ ap (ltb 0) (rw q (sym stays ∙ ap f (sym (get_or-set_same x.tones i n nowhere there))))
          by (no m) = same j ∙ ap (λ (k : Noted). ltb 0 (f k)) (sym (get_or-set_other x.tones i j n nowhere m))

      -- what is remembered of a tone that is given what it may have once is that this has a place
      remembers : (f : Noted → ℕ) (had : ℕ → Bool) → ((j : ℕ) → had j ≡ ltb 0 (f (noted_of x j))) → 0 < f n → (j : ℕ) → cond (eqb j i) true (had j) ≡ ltb 0 (f (noted_of (with_noted x i n) j))
      remembers f had same placed j = by (ℕ_discrete j i)
        where
          by : Dec (j ≡ i) → cond (eqb j i) true (had j) ≡ ltb 0 (f (noted_of (with_noted x i n) j))
          by (yes q) = rw (eq-eqb j i q, q) (sym (lt-ltb 0 (f n) placed) ∙ ap (λ (k : Noted). ltb 0 (f k)) (sym (get_or-set_same x.tones i n nowhere there)))
          by (no m) = rw (ne_eqb j i m) (same j ∙ ap (λ (k : Noted). ltb 0 (f k)) (sym (get_or-set_other x.tones i j n nowhere m)))

    -- the tone that is described is the one that the command addresses
    pub on-describe : Bytes s → (i : ℕ) → d.command ≡ Ok (Describe i) → Going s (with_noted x i (owned (noted_of x i) at)) h d.next stage
    on-describe bytes i f =
        let k = heard _ f in
        let small = tone-small k.late k.of_line in
        let new : (noted_of x i).own ≡ 0 = no_place g.index i (rw k.tone k.new) in
        goes_on bytes (so_far_after (Describe i) s at g.sofar) k.there (simp f) (sized-entry i _) g.header_is
        (notes-describe s g.index at i small (omega (arith, k.of_line, g.sized.entries_sized)) (omega arith) new (record { code = k.code; tone = sym k.tone; inside = k.whole }))
        (keeps small (owned (noted_of x i) at) (λ (n : Noted). n.rest) g.rested_is refl)
        (keeps small (owned (noted_of x i) at) (λ (n : Noted). n.high) g.widened_is refl)
        (λ l. absurd (omega arith)) g.low (omega arith)

    -- and so is the tone that is given its rest
    pub on-rest : Bytes s → (i : ℕ) → d.command ≡ Ok (Rest i) → Going s (with_noted x i (rested (noted_of x i) at)) h d.next stage
    on-rest bytes i f =
        let k = heard _ f in
        let small = tone-small k.late k.of_line in
        let late : 0 < at = omega arith in
        let placed : 0 < (noted_of x i).own = has-place g.index i (rw k.tone (described-takes (entry_of g.sofar.line (addressed s at)) (g.sofar.rested (addressed s at)) k.takes_one)) in
        goes_on bytes (so_far_after (Rest i) s at g.sofar) k.there (simp f) (sized-entry i _) g.header_is
        (notes-rest s g.index at i small (omega (arith, k.of_line, g.sized.entries_sized)) late placed (record { code = k.code; tone = sym k.tone; inside = k.whole }))
        (remembers small (rested (noted_of x i) at) (λ (n : Noted). n.rest) g.sofar.rested g.rested_is late)
        (keeps small (rested (noted_of x i) at) (λ (n : Noted). n.high) g.widened_is refl)
        (λ l. absurd (omega arith)) g.low (omega arith)

    -- and the one that is given its high noise
    pub on-high : Bytes s → (i : ℕ) → d.command ≡ Ok (High i) → Going s (with_noted x i (widened (noted_of x i) at)) h d.next stage
    on-high bytes i f =
        let k = heard _ f in
        let small = tone-small k.late k.of_line in
        let late : 0 < at = omega arith in
        let placed : 0 < (noted_of x i).own = has-place g.index i (rw k.tone (described-takes (entry_of g.sofar.line (addressed s at)) (g.sofar.widened (addressed s at)) k.takes_one)) in
        goes_on bytes (so_far_after (High i) s at g.sofar) k.there (simp f) (sized-entry i _) g.header_is
        (notes-high s g.index at i small (omega (arith, k.of_line, g.sized.entries_sized)) late placed (record { code = k.code; tone = sym k.tone; inside = k.whole }))
        (keeps small (widened (noted_of x i) at) (λ (n : Noted). n.rest) g.rested_is refl)
        (remembers small (widened (noted_of x i) at) (λ (n : Noted). n.high) g.sofar.widened g.widened_is late)
        (λ l. absurd (omega arith)) g.low (omega arith)

    pub on-silence : Bytes s → (word map : ℕ) → map < 2 ^ 32 → d.command ≡ Ok (Silence word map) → Going s (with_map x word map) h d.next stage
    on-silence bytes word map small f =
        let k = heard _ f in
        goes_on bytes (so_far_after (Silence word map) s at g.sofar) k.there (simp f)
        (record { entries_sized = g.sized.entries_sized; maps_sized = length-set g.sofar.line.maps word _ ∙ g.sized.maps_sized }) g.header_is
        (notes-silence s g.index at word map k.word_high small (omega (arith, g.sized.maps_sized)) k.of_line)
        g.rested_is g.widened_is (λ l. absurd (omega arith)) g.low (omega arith)
