-- The index keeps up with the line, command by command.
-- Assumes nothing.
use mathlib.Core.Bool.{Bool, true, false, not}
use mathlib.Core.List.{List}
use mathlib.Core.Path.{◌≡◌, sym, ap, ◌∙◌}
use Prim.Native.Nat.{ℕ, ◌*◌, ◌^◌, ◌≤◌, ◌<◌}
use native.Mathlib.Decide.{dec_le, ℕ_discrete}
use native.Mathlib.Omega.{arith}
use borrow.Author.Tests.{ltb-true, ltb-false}
use lib.Bits.{bit_or}
use lib.Dec.{ltb}
use lib.ListN.{length, get_or, set, length-set, length-replicate, get_or-eq_default}
use lib.Seq.{get_or-set_same, get_or-set_other, set_out}
use Rattle.sizes.specs.Sizes.{most_tones, most_words, word_tones, words_of}
use Rattle.lists.proofs.Stores.{all_same, after_store}
use Rattle.silence.specs.Map.{names_beyond, joined}
use Rattle.silence.proofs.Maps.{beyond-zero}
use Rattle.lists.proofs.Tests.{both-pass}
use Rattle.line.specs.Line.{none_added, Entry, undescribed, described, is_described, with_rest, with_high, Line, entry_of}
use Rattle.rows.specs.declared.Header.{Header}
use Rattle.rows.specs.declared.Command.TheVariants.{Describe, Rest, High, Silence}
use Rattle.places.specs.declared.Noted.{Noted}
use Rattle.places.specs.Places.{tone_at, rest_at, high_at, entry_at, entry_noted, nowhere}
use Rattle.places.proofs.Entries.{rest-there, high-there, entry-there}
use Rattle.rows.specs.Rows.{takes}
use Rattle.rows.proofs.Judging.{described-at}
use Rattle.sheet.specs.declared.Index.{Index}
use Rattle.sheet.specs.Reading.{bare_line, with_entry, effect}
use Rattle.sheet.specs.Index.{ToneStands, RestStands, HighStands, noted_of, empty_index, Indexes}

-- an index with something else noted of tone i, and one with the map of a word joined
abbrev pub with_noted : Index → (i : ℕ) → Noted → Index
with_noted x i n = record { tones = set x.tones i n; maps = x.maps }

abbrev pub with_map : Index → (word map : ℕ) → Index
with_map x word map = record { tones = x.tones; maps = joined x.maps word map }

-- what is noted of a tone, with the place of its command, of its rest's or of its high noise's
abbrev pub owned : Noted → (at : ℕ) → Noted
owned n at = record { own = at; rest = n.rest; high = n.high }

abbrev pub rested : Noted → (at : ℕ) → Noted
rested n at = record { own = n.own; rest = at; high = n.high }

abbrev pub widened : Noted → (at : ℕ) → Noted
widened n at = record { own = n.own; rest = n.rest; high = at }

-- in an index before any command nothing is noted of a tone
pub nothing-noted : (i : ℕ) → noted_of empty_index i ≡ nowhere
nothing-noted i = all_same most_tones i nowhere

-- a tone has a place exactly if it is described
module _ {s : List ℕ} {x : Index} {l : Line} (X : Indexes s x l) (i : ℕ) where
  pub described-here : is_described (entry_of l i) ≡ ltb 0 (noted_of x i).own
  described-here = ap is_described (X.entry i) ∙ described-at s (noted_of x i).rest (noted_of x i).high (noted_of x i).own

  pub no_place : is_described (entry_of l i) ≡ false → (noted_of x i).own ≡ 0
  no_place e = omega (arith, ltb-false 0 (noted_of x i).own (sym described-here ∙ e))

  pub has-place : is_described (entry_of l i) ≡ true → 0 < (noted_of x i).own
  has-place e = ltb-true 0 (noted_of x i).own (sym described-here ∙ e)

-- a tone that takes a rest or a high noise is described
pub described-takes : (e : Entry) (had : Bool) → takes e had ≡ true → is_described e ≡ true
described-takes e had h = (both-pass (is_described e) (not had) h).0

-- a new header leaves a line with nothing described and nothing silenced
pub notes-head : (s : List ℕ) (h : Header) → Indexes s empty_index (bare_line h)
notes-head s h = record {
  tones_sized = length-replicate most_tones nowhere;
  maps_sized = length-replicate {A = ℕ} most_words 0;
  entry = λ i. all_same h.size i undescribed ∙ ap (entry_noted s) (sym (nothing-noted i));
  stands = λ i p. absurd (omega (arith, ap (λ (n : Noted). n.own) (nothing-noted i)));
  rest_stands = λ i p. absurd (omega (arith, ap (λ (n : Noted). n.rest) (nothing-noted i)));
  high_stands = λ i p. absurd (omega (arith, ap (λ (n : Noted). n.high) (nothing-noted i)));
  no_rest = λ i e. ap (λ (n : Noted). n.rest) (nothing-noted i);
  no_high = λ i e. ap (λ (n : Noted). n.high) (nothing-noted i);
  map = λ word. all_same {A = ℕ} (words_of h.size) word 0 ∙ sym (all_same {A = ℕ} most_words word 0);
}

-- what is noted of tone i stands in the sheet; without a place it has neither a rest nor a high noise
record NotedStands (s : List ℕ) (i : ℕ) (n : Noted) : Type 0 where
  stands : 0 < n.own → ToneStands s i n.own
  rest_stands : 0 < n.rest → RestStands s i n.rest
  high_stands : 0 < n.high → HighStands s i n.high
  no_rest : n.own ≡ 0 → n.rest ≡ 0
  no_high : n.own ≡ 0 → n.high ≡ 0

module _ (s : List ℕ) {x : Index} {l : Line} (X : Indexes s x l) where
  -- another entry for a tone, of which as much is noted
  notes-entry : (i : ℕ) → i < most_tones → i < length l.entries → (n : Noted) (e : Entry) → e ≡ entry_noted s n → NotedStands s i n
      → Indexes s (with_noted x i n) (with_entry l i e)
  notes-entry i small inside n e same stands = record {
    tones_sized = length-set x.tones i n ∙ X.tones_sized;
    maps_sized = X.maps_sized;
    entry = λ j. by j (ℕ_discrete j i);
    stands = λ j. (kept j).stands;
    rest_stands = λ j. (kept j).rest_stands;
    high_stands = λ j. (kept j).high_stands;
    no_rest = λ j. (kept j).no_rest;
    no_high = λ j. (kept j).no_high;
    map = X.map;
  }
    where
      there : i < length x.tones
      there = omega (arith, X.tones_sized)

      kept : (j : ℕ) → NotedStands s j (noted_of (with_noted x i n) j)
      kept j =
          after_store (NotedStands s) x.tones i n nowhere j there (λ q. rw q stands)
          (record { stands = X.stands j; rest_stands = X.rest_stands j; high_stands = X.high_stands j; no_rest = X.no_rest j; no_high = X.no_high j })

      by : (j : ℕ) → Dec (j ≡ i) → get_or (set l.entries i e) j undescribed ≡ entry_noted s (noted_of (with_noted x i n) j)
      by j (yes q) = rw q (get_or-set_same l.entries i e undescribed inside ∙ same ∙ ap (entry_noted s) (sym (get_or-set_same x.tones i n nowhere there)))
      by j (no m) = get_or-set_other l.entries i j e undescribed m ∙ X.entry j ∙ ap (entry_noted s) (sym (get_or-set_other x.tones i j n nowhere m))

  module _ (at i : ℕ) (small : i < most_tones) (inside : i < length l.entries) (late : 0 < at) where
    abbrev noted : Noted
    noted = noted_of x i

    -- a tone that has no rest and no high noise yet, described
    pub notes-describe : noted.own ≡ 0 → ToneStands s i at → Indexes s (with_noted x i (owned noted at)) (effect (Describe i) s at l)
    notes-describe new stands =
        notes-entry i small inside (owned noted at) (described (tone_at s at) (none_added (tone_at s at))) same
        (record { stands = λ h. stands; rest_stands = X.rest_stands i; high_stands = X.high_stands i; no_rest = λ e. X.no_rest i new; no_high = λ e. X.no_high i new })
      where
        same : described (tone_at s at) (none_added (tone_at s at)) ≡ entry_at s at noted.rest noted.high
        same = rw (X.no_rest i new, X.no_high i new) (sym (entry-there s 0 0 at late))

    module _ (placed : 0 < noted.own) where
      -- a described tone, given its rest
      pub notes-rest : RestStands s i at → Indexes s (with_noted x i (rested noted at)) (effect (Rest i) s at l)
      notes-rest stands =
          notes-entry i small inside (rested noted at) (with_rest (rest_at s at) (entry_of l i)) same
          (record { stands = X.stands i; rest_stands = λ h. stands; high_stands = X.high_stands i; no_rest = λ e. absurd (omega arith); no_high = X.no_high i })
        where
          same : with_rest (rest_at s at) (entry_of l i) ≡ entry_at s noted.own at noted.high
          same = rw (X.entry i, entry-there s noted.rest noted.high noted.own placed, entry-there s at noted.high noted.own placed, rest-there s at late)

      -- a described tone, given its high noise
      pub notes-high : HighStands s i at → Indexes s (with_noted x i (widened noted at)) (effect (High i) s at l)
      notes-high stands =
          notes-entry i small inside (widened noted at) (with_high (high_at s at) (entry_of l i)) same
          (record { stands = X.stands i; rest_stands = X.rest_stands i; high_stands = λ h. stands; no_rest = X.no_rest i; no_high = λ e. absurd (omega arith) })
        where
          same : with_high (high_at s at) (entry_of l i) ≡ entry_at s noted.own noted.rest at
          same =
              rw (X.entry i, entry-there s noted.rest noted.high noted.own placed, entry-there s noted.rest at noted.own placed, high-there s (tone_at s noted.own) at late)

  -- a map of a word past the line's last is 0, so that nothing is lost where the line has no map for it
  pub notes-silence : (at word map : ℕ) → word < most_words → map < 2 ^ 32 → l.size ≤ word_tones * length l.maps → names_beyond l.size word map ≡ false
      → Indexes s (with_map x word map) (effect (Silence word map) s at l)
  notes-silence at word map high small room inside = record {
    tones_sized = X.tones_sized;
    maps_sized = length-set x.maps word _ ∙ X.maps_sized;
    entry = X.entry;
    stands = X.stands;
    rest_stands = X.rest_stands;
    high_stands = X.high_stands;
    no_rest = X.no_rest;
    no_high = X.no_high;
    map = λ w. by w (ℕ_discrete w word) (dec_le (length l.maps) word);
  }
    where
      old : ℕ
      old = get_or l.maps word 0

      there : word < length x.maps
      there = omega (arith, X.maps_sized)

      by : (w : ℕ) → Dec (w ≡ word) → Dec (length l.maps ≤ word) → get_or (joined l.maps word map) w 0 ≡ get_or (joined x.maps word map) w 0
      by w (no m) d = get_or-set_other l.maps word w _ 0 m ∙ X.map w ∙ sym (get_or-set_other x.maps word w _ 0 m)
      by w (yes e) (no h) =
          rw (e, get_or-set_same l.maps word (bit_or old map) 0 (omega arith), get_or-set_same x.maps word (bit_or (get_or x.maps word 0) map) 0 there, X.map word)
      by w (yes e) (yes h) =
          let none : old ≡ 0 = get_or-eq_default l.maps 0 h in
          rw (e, set_out l.maps word (bit_or old map) h, get_or-set_same x.maps word (bit_or (get_or x.maps word 0) map) 0 there, sym (X.map word), none, beyond-zero l.size word map small (omega arith) inside)
