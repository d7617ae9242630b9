-- A line in its tidy form reads back as that line. Laws:
--   filled-all                        a list filled from the front is the list
--   tone-ends                         a tone's command, its rest's straight after it, and its high noise's then, read on to the whole line
--   tones-end, maps-end, head-ends    so do the tones, the maps and the first three commands
--   gap_ends                          the gap's command does, of either unit
--   tidy-reads                        so does the tidy form
-- Assumes nothing.
use mathlib.Core.Path.{◌≡◌, refl, sym, ap, subst, ◌∙◌}
use mathlib.Core.Bool.{Bool, true, false, cond}
use mathlib.Core.List.{List, [], ◌∷◌, ◌++◌, append_assoc}
use mathlib.Core.Logic.{inl, inr}
use Prim.Native.Nat.{ℕ, zero, suc, ◌+◌, ◌-◌, ◌^◌, ◌≤◌, ◌<◌}
use native.Mathlib.Nat.{eq-or-lt_of_le, le_of_suc-le-suc, not-suc-le-zero}
use native.Mathlib.Omega.{arith}
use borrow.Author.Tests.{le-ltb, eqb-true, eqb-false, ne_eqb}
use lib.Dec.{eqb}
use lib.ListN.{length, get_or, set, replicate, length-set, length-replicate}
use lib.Seq.{get_or-set_same, get_or-set_other, set-get_or, set-set, ext_get_or}
use Rattle.sizes.specs.Sizes.{most_power, most_words, most_tones, longest_sheet, words_of}
use Rattle.lists.specs.Joined.{joined_below}
use Rattle.lists.proofs.Stores.{all_same}
use Rattle.bigendian.specs.Number.{byte_base}
use Rattle.bigendian.proofs.Numbers.{number-there}
use Rattle.silence.proofs.Maps.{clear-beyond}
use Rattle.gaps.specs.declared.Gap.{Gap}
use Rattle.gaps.specs.declared.Gap.TheVariants.{Parts, Tenths}
use Rattle.gaps.specs.Gap.{gap_unit, most_gap, most_tenths, GapInRange}
use Rattle.line.specs.declared.Tone.{Tone}
use Rattle.line.specs.Tone.{noise_of}
use Rattle.line.specs.Line.{Added, none_added, Entry, undescribed, described, EntryInRange, LineInRange, Line, gap_of, entry_of, rest_total}
use Rattle.rows.specs.declared.Header.{Header}
use Rattle.rows.specs.declared.Command.TheVariants.{Describe, Rest, High, Silence}
use Rattle.rows.specs.Rows.{Row, gap, tenths, budget, rest, high, end}
use Rattle.rows.specs.Codes.{size_row, silence_row}
use Rattle.addresses.specs.Addresses.{code_of, addressed}
use Rattle.addresses.proofs.Widths.{IsWidth, width_back}
use Rattle.places.specs.Places.{tone_at, rest_at, high_at}
use Rattle.command.specs.Format.{today}
use Rattle.sheet.specs.Reading.{accepted, bare_line, with_entry, SoFar, nothing, rested_after, widened_after, go, after_command, said_in, said, reading}
use Rattle.sheet.proofs.Rests.{is-accepted}
use Rattle.sheet.proofs.Sound.{Sound}
use Rattle.tidyform.specs.Tidy.{written, tidy_width, kind_row, kind_values, rest_bytes, high_bytes, entry_bytes, word_bytes, tone_bytes, map_bytes, gap_bytes, head_bytes, tidy}
use Rattle.tidyform.proofs.Parts.{tidy-is-width, tidy-fits, kind_short, row_is, short-small}
use Rattle.tidyform.proofs.Written.{seen_in, Good, no_value, Stand, Reads, next, addresses-written, reads-written, reads_end}
use Rattle.tidyform.proofs.Operands.{ranged, new_map, good-tone, tone-found, rest-found, high-found, tone-does, good-rest, Widens, widens, good-high}
use Rattle.tidyform.proofs.Tones.{tone-stands}

-- A list filled from the front.

module _ {A : Type 0} (absent : A) (room : ℕ) (xs : List A) where
  -- nothing, but for the first n elements, which are those of xs
  filled : (n : ℕ) → List A
  filled zero = replicate room absent
  filled (suc n) = set (filled n) n (get_or xs n absent)

  length-filled : (n : ℕ) → length (filled n) ≡ room
  unfolding filled
  length-filled zero = length-replicate room absent
  length-filled (suc n) = length-set (filled n) n (get_or xs n absent) ∙ length-filled n

  absent-from : (n i : ℕ) → n ≤ i → get_or (filled n) i absent ≡ absent
  unfolding filled
  absent-from zero i h = all_same room i absent
  absent-from (suc n) i h = get_or-set_other (filled n) n i (get_or xs n absent) absent (λ e. omega arith) ∙ absent-from n i (omega arith)

  filled-below : (n i : ℕ) → i < n → n ≤ room → get_or (filled n) i absent ≡ get_or xs i absent
  unfolding filled
  filled-below zero i h g = absurd (not-suc-le-zero h)
  filled-below (suc n) i h g = elim (eq-or-lt_of_le (le_of_suc-le-suc h)) [
    | inl e ↦ rw e (get_or-set_same (filled n) n (get_or xs n absent) absent (omega (arith, length-filled n)))
    | inr l ↦ get_or-set_other (filled n) n i (get_or xs n absent) absent (λ e. omega arith) ∙ filled-below n i l (omega arith)
  ]

  filled-all : length xs ≡ room → filled room ≡ xs
  filled-all e = ext_get_or absent (filled room) xs (length-filled room ∙ sym e) (λ i l. filled-below room i (omega (arith, length-filled room)) (omega arith))

  -- an element that is not there changes nothing
  filled-skip : (n : ℕ) → get_or xs n absent ≡ absent → filled (suc n) ≡ filled n
  unfolding filled
  filled-skip n e = ap (set (filled n) n) (e ∙ sym (absent-from n n (omega arith))) ∙ set-get_or (filled n) n absent

-- The reading of the tidy form.

regroup : (a b c d e f : List ℕ) → (a ++ b ++ c) ++ d ++ e ++ f ≡ a ++ (b ++ (c ++ (d ++ (e ++ f))))
regroup a b c d e f = simp append_assoc

in-turn : (a b c d : List ℕ) → (a ++ (b ++ c)) ++ d ≡ a ++ (b ++ (c ++ d))
in-turn a b c d = simp append_assoc

-- the line when n tones and m maps have been read
part : Line → (n m : ℕ) → Line
part l n m = record {
  size = l.size;
  gap = l.gap;
  budget = l.budget;
  entries = filled undescribed l.size l.entries n;
  maps = filled 0 (words_of l.size) l.maps m;
}

-- which tones have had a 0B, and which a 0C
record Had : Type 0 where
  rested : ℕ → Bool
  widened : ℕ → Bool

-- what is read then, with those tones
abbrev along : Line → (n m : ℕ) → Had → SoFar
along l n m had = record { line = part l n m; rested = had.rested; widened = had.widened }

-- no tone from n on has had either
abbrev NoneFrom : (n : ℕ) → (given : ℕ → Bool) → Type 0
NoneFrom n given = (i : ℕ) → n ≤ i → given i ≡ false

record Fresh (n : ℕ) (had : Had) : Type 0 where
  rested : NoneFrom n had.rested
  widened : NoneFrom n had.widened

none-later : (n : ℕ) (given : ℕ → Bool) → NoneFrom n given → NoneFrom (suc n) given
none-later n given none i k = none i (omega arith)

-- one given to tone n is given to none after it
none_after : (n : ℕ) (given : ℕ → Bool) → NoneFrom n given → NoneFrom (suc n) (λ i. cond (eqb i n) true (given i))
none_after n given none i k = rw (ne_eqb i n (λ e. omega arith)) (none i (omega arith))

-- from there on this list reads to the end, and to the whole line, whichever of the n tones have had one
abbrev Ends : Line → List ℕ → (n m : ℕ) → Type 0
Ends l q n m = (had : Had) → Fresh n had → Reads q 3 (along l n m had) (accepted l)

module _ (l : Line) (S : Sound l) where
  -- Tones.

  module _ (n : ℕ) (t : Tone) (a : Added) (q : List ℕ) (h : n < l.size) (is : entry_of l n ≡ described t a) (I : EntryInRange (gap_of l) (described t a))
      (had : Had) (fresh : Fresh n had) (ends : Ends l q (suc n) 0) where
    -- the bytes of its number
    abbrev w : ℕ
    w = tidy_width n

    wide : IsWidth w
    wide = tidy-is-width n

    abbrev own : Row
    own = kind_row w t.kind

    abbrev carried : List ℕ
    carried = n ∷ kind_values t.kind

    abbrev rests : Row
    rests = rest w

    abbrev rest_values : List ℕ
    rest_values = n ∷ a.rest ∷ []

    abbrev highs : Row
    highs = high w

    abbrev high_values : List ℕ
    high_values = n ∷ a.high ∷ []

    -- tone n with a rest, and no high noise yet; after its own command the rest is 0
    abbrev added_rest : (r : ℕ) → Added
    added_rest r = record { rest = r; high = noise_of t.kind }

    abbrev entry_with : (r : ℕ) → Entry
    entry_with r = described t (added_rest r)

    abbrev between : (r : ℕ) → (rested : ℕ → Bool) → SoFar
    between r rested = record { line = with_entry (part l n 0) n (entry_with r); rested = rested; widened = had.widened }

    small : n < byte_base ^ w
    small = tidy-fits n (omega (arith, S.in_range.size_high))

    -- each command addresses it
    own-addresses : (p : List ℕ) → addressed (written own carried ++ p) 0 ≡ n
    own-addresses p =
        let short = kind_short t.kind in
        rw (row_is w t.kind) (addresses-written (code_of w short) w n _ (width_back w short wide (short-small t.kind)) small p)

    rest-addresses : (p : List ℕ) → addressed (written rests rest_values ++ p) 0 ≡ n
    rest-addresses p = addresses-written rests.code w n _ (width_back w 0x0b wide (omega arith)) small p

    high-addresses : (p : List ℕ) → addressed (written highs high_values ++ p) 0 ≡ n
    high-addresses p = addresses-written highs.code w n _ (width_back w 0x0c wide (omega arith)) small p

    tone-good : (p : List ℕ) → Good (seen_in (along l n 0 had) (written own carried ++ p)) own.operands carried
    unfolding part
    tone-good p =
        let new = absent-from undescribed l.size l.entries n n (omega arith) in
        good-tone _ _ w n small h (rw (own-addresses p, new)) t.kind I.0

    tone-goes : (s : List ℕ) (at to : ℕ) → tone_at s at ≡ t → after_command (Describe n) to s at 3 (along l n 0 had) ≡ go to 3 (between 0 had.rested)
    tone-goes s at to e =
        ap (λ (x : Tone). go to 3 (record { line = with_entry (part l n 0) n (described x (none_added x)); rested = had.rested; widened = had.widened })) e

    there : (r : ℕ) (rested : ℕ → Bool) → entry_of (between r rested).line n ≡ entry_with r
    unfolding part
    there r rested = get_or-set_same (part l n 0).entries n (entry_with r) undescribed (omega (arith, length-filled undescribed l.size l.entries n))

    rest-good : (p : List ℕ) → Good (seen_in (between 0 had.rested) (written rests rest_values ++ p)) rests.operands rest_values
    unfolding part
    rest-good p =
        good-rest _ _ w n t (added_rest 0) a.rest small h (rw (rest-addresses p) (there 0 had.rested)) (rw (rest-addresses p) (fresh.rested n (omega arith)))
        I.0 I.1.rest

    rest_goes : (s : List ℕ) (at to : ℕ) → get_or s at 0 ≡ rests.code → next rests at ≤ length s → Stand s (at + 1) rests.operands rest_values
        → after_command (Rest n) to s at 3 (between 0 had.rested) ≡ go to 3 (between a.rest (rested_after (Rest n) had.rested))
    unfolding part
    rest_goes s at to code whole st =
        let value : rest_at s at ≡ a.rest = rw (code, width_back w 0x0b wide (omega arith)) (number-there s (at + 1 + w) 4 (omega arith) (omega arith) ∙ st.1.0) in
        rw (there 0 had.rested, value, set-set)

    -- its high noise's, if that is not its noise, is the last
    module _ (rested : ℕ → Bool) (none : NoneFrom (suc n) rested) where
      high-good : Widens t.kind a.high → Good (seen_in (between a.rest rested) (written highs high_values ++ q)) highs.operands high_values
      unfolding part
      high-good W =
          good-high _ _ w n t (added_rest a.rest) a.high small h (rw (high-addresses q) (there a.rest rested)) (rw (high-addresses q) (fresh.widened n (omega arith))) W

      high_goes : (s : List ℕ) (at to : ℕ) → get_or s at 0 ≡ highs.code → next highs at ≤ length s → Stand s (at + 1) highs.operands high_values
          → after_command (High n) to s at 3 (between a.rest rested)
          ≡ go to 3 (along l (suc n) 0 (record { rested = rested; widened = widened_after (High n) had.widened }))
      unfolding part filled
      high_goes s at to code whole st =
          let value : high_at s at ≡ a.high = rw (code, width_back w 0x0c wide (omega arith)) (number-there s (at + 1 + w) 2 (omega arith) (omega arith) ∙ st.1.0) in
          rw (there a.rest rested, value, is, set-set)

      high-ends : (own : Bool) → eqb a.high (noise_of t.kind) ≡ own → Reads (cond own [] (written highs high_values) ++ q) 3 (between a.rest rested) (accepted l)
      unfolding part filled
      high-ends true e =
          rw (is, eqb-true a.high (noise_of t.kind) e) at
          (ends (record { rested = rested; widened = had.widened }) (record { rested = none; widened = none-later n had.widened fresh.widened }))
      high-ends false e =
          reads-written (between a.rest rested) 3 highs high_values q (high-found w wide)
          (high-good (widens t.kind a.high I.1.high (eqb-false a.high (noise_of t.kind) e)))
          (λ s at code whole st. high_goes s at _ code whole st)
          (ends _ (record { rested = none; widened = none_after n had.widened fresh.widened }))

    -- its rest's, if it has one, comes before
    rest-ends : (none : Bool) → eqb a.rest 0 ≡ none
        → Reads (cond none [] (written rests rest_values) ++ (high_bytes n t a.high ++ q)) 3 (between 0 had.rested) (accepted l)
    rest-ends true e =
        rw (eqb-true a.rest 0 e) at (high-ends had.rested (none-later n had.rested fresh.rested) (eqb a.high (noise_of t.kind)) refl)
    rest-ends false e =
        let more : List ℕ = high_bytes n t a.high ++ q in
        reads-written (between 0 had.rested) 3 rests rest_values more (rest-found w wide) (rest-good more) (λ s at code whole st. rest_goes s at _ code whole st)
        (high-ends (rested_after (Rest n) had.rested) (none_after n had.rested fresh.rested) (eqb a.high (noise_of t.kind)) refl)

    tone-ends : Reads (entry_bytes n (described t a) ++ q) 3 (along l n 0 had) (accepted l)
    tone-ends =
        let more : List ℕ = rest_bytes n a.rest ++ (high_bytes n t a.high ++ q) in
        subst (λ (p : List ℕ). Reads p 3 (along l n 0 had) (accepted l)) (sym (in-turn (written own carried) (rest_bytes n a.rest) (high_bytes n t a.high) q))
        (reads-written (along l n 0 had) 3 own carried more (tone-found w wide t.kind) (tone-good more)
        (λ s at code whole st. rw (tone-does w t.kind) (tone-goes s at _ (tone-stands s at w n t.kind wide I.0.kind code whole st)))
        (rest-ends (eqb a.rest 0) refl))

  entry-ends : (n : ℕ) (e : Entry) (q : List ℕ) → n < l.size → entry_of l n ≡ e → EntryInRange (gap_of l) e → Ends l q (suc n) 0
      → Ends l (entry_bytes n e ++ q) n 0
  unfolding part
  entry-ends n undescribed q h e I ends had fresh =
      rw (← filled-skip undescribed l.size l.entries n e)
      (ends had (record { rested = none-later n had.rested fresh.rested; widened = none-later n had.widened fresh.widened }))
  entry-ends n (described t a) q h e I ends had fresh = tone-ends n t a q h e I had fresh ends

  tones-end : (n : ℕ) (q : List ℕ) → n ≤ l.size → Ends l q n 0 → Ends l (tone_bytes n l.entries ++ q) 0 0
  unfolding joined_below
  tones-end zero q h ends = ends
  tones-end (suc n) q h ends =
      let e : Entry = get_or l.entries n undescribed in
      rw append_assoc (tones-end n (entry_bytes n e ++ q) (omega arith) (entry-ends n e q h refl (S.in_range.entries n h) ends))

  -- Maps.

  map-goes : (n to : ℕ) (had : Had) (s : List ℕ) (at : ℕ)
      → after_command (Silence n (get_or l.maps n 0)) to s at 3 (along l l.size n had) ≡ go to 3 (along l l.size (suc n) had)
  unfolding part filled
  map-goes n to had s at =
      let new : get_or (filled 0 (words_of l.size) l.maps n) n 0 ≡ 0 = absent-from 0 (words_of l.size) l.maps n n (omega arith) in
      rw new

  map-good : (n : ℕ) (had : Had) (q : List ℕ) → n < words_of l.size
      → Good (seen_in (along l l.size n had) q) silence_row.operands (n ∷ get_or l.maps n 0 ∷ [])
  unfolding part
  map-good n had q h =
      let v : ℕ = get_or l.maps n 0 in
      let k : n < most_words = omega (arith, S.in_range.size_high) in
      ranged 1 0 (most_words - 1) n (omega arith) (omega arith) (omega arith) (new_map v (S.maps_small n) (clear-beyond l.size n v (λ k b. S.maps_within n k)))

  map-ends : (n : ℕ) (empty : Bool) (q : List ℕ) → n < words_of l.size → eqb (get_or l.maps n 0) 0 ≡ empty → Ends l q l.size (suc n)
      → Ends l (cond empty [] (written silence_row (n ∷ get_or l.maps n 0 ∷ [])) ++ q) l.size n
  unfolding part
  map-ends n true q h e ends had fresh = rw (← filled-skip 0 (words_of l.size) l.maps n (eqb-true (get_or l.maps n 0) 0 e)) (ends had fresh)
  map-ends n false q h e ends had fresh =
      let vs : List ℕ = n ∷ get_or l.maps n 0 ∷ [] in
      reads-written (along l l.size n had) 3 silence_row vs q refl (map-good n had (written silence_row vs ++ q) h)
      (λ s at code whole st. map-goes n _ had s at) (ends had fresh)

  maps-end : (n : ℕ) (q : List ℕ) → n ≤ words_of l.size → Ends l q l.size n → Ends l (map_bytes n l.maps ++ q) l.size 0
  unfolding joined_below
  maps-end zero q h ends = ends
  maps-end (suc n) q h ends =
      let v : ℕ = get_or l.maps n 0 in
      rw append_assoc (maps-end n (word_bytes n v ++ q) (omega arith) (map-ends n (eqb v 0) q h refl ends))

  -- The whole.

  part-all : part l l.size (words_of l.size) ≡ l
  unfolding part
  part-all = rw (filled-all undescribed l.size l.entries S.entries_sized, filled-all 0 (words_of l.size) l.maps S.maps_sized)

  -- before any tone
  abbrev bare : Header → SoFar
  bare h = record { line = bare_line h; rested = λ i. false; widened = λ i. false }

  -- the gap's command, of either unit
  gap_ends : (g : Gap) (n : ℕ) (q : List ℕ) → GapInRange g → Reads q 2 (bare (record { size = n; gap = g; budget = 0 })) (accepted l)
      → Reads (gap_bytes g ++ q) 1 (bare (record { size = n; gap = Parts 0; budget = 0 })) (accepted l)
  unfolding gap_bytes
  gap_ends (Parts g) n q I = reads-written _ 1 gap (g ∷ []) q refl (ranged 2 gap_unit most_gap g (omega arith) I.low I.high no_value) (λ s at c w st. refl)
  gap_ends (Tenths d) n q I = reads-written _ 1 tenths (d ∷ []) q refl (ranged 1 0 most_tenths d (omega arith) (omega arith) I no_value) (λ s at c w st. refl)

  -- the first three commands
  head-ends : (q : List ℕ) → Ends l q 0 0
      → Reads (written size_row (l.size ∷ []) ++ (gap_bytes l.gap ++ (written budget (l.budget ∷ []) ++ q))) 0 nothing (accepted l)
  unfolding part filled
  head-ends q ends =
      let I : LineInRange l = S.in_range in
      reads-written nothing 0 size_row (l.size ∷ []) _ refl (ranged 2 1 most_tones l.size (omega arith) I.size_low I.size_high no_value) (λ s at c w st. refl)
      (gap_ends l.gap l.size _ I.gap
      (reads-written _ 2 budget (l.budget ∷ []) q refl (ranged 8 0 most_power l.budget (omega arith) (omega arith) I.budget_high no_value) (λ s at c w st. refl)
      (ends (record { rested = λ i. false; widened = λ i. false }) (record { rested = λ i k. refl; widened = λ i k. refl }))))

  tidy-parts : tidy l ≡ written size_row (l.size ∷ []) ++ (gap_bytes l.gap ++ (written budget (l.budget ∷ [])
      ++ (tone_bytes l.size l.entries ++ (map_bytes (words_of l.size) l.maps ++ written end []))))
  unfolding tidy head_bytes
  tidy-parts = regroup (written size_row (l.size ∷ [])) (gap_bytes l.gap) (written budget (l.budget ∷ [])) _ _ _

  tidy-ends : Reads (tidy l) 0 nothing (accepted l)
  tidy-ends = rw tidy-parts (head-ends _ (tones-end l.size _ (omega arith) (maps-end (words_of l.size) _ (omega arith) last)))
    where
      last : Ends l (written end []) l.size (words_of l.size)
      last had fresh = rw part-all (reads_end (record { line = l; rested = had.rested; widened = had.widened }))

  tidy-says : length (tidy l) ≤ longest_sheet → said (tidy l) ≡ accepted l
  unfolding said_in
  tidy-says short =
      rw (le-ltb longest_sheet (length (tidy l)) short)
      (tidy-ends (tidy l) 0 (suc (length (tidy l))) (omega arith) refl (omega arith))

  pub tidy-reads : length (tidy l) ≤ longest_sheet → rest_total l ≤ l.budget → reading (tidy l) ≡ accepted l
  tidy-reads short = is-accepted today (tidy l) l (tidy-says short)
