-- The line that a sheet means is sound: its numbers are in their ranges, it has an entry for each tone and a map for each word, and no
-- map names a tone beyond it. Laws:
--   bare-sound, stored, silences       a line is sound after the first three commands, after a tone's, a rest's or a high noise's, after a silence
--   kept                               so is each line that the reading comes to
--   said-sound                         so is the line that the bytes say
--   accepted-sound, accepted-fits,     the line of an accepted sheet is sound, its rests keep the budget,
--   accepted-short                     and the sheet is not too long
-- Assumes nothing.
use mathlib.Core.Bool.{Bool, true, false, true≢false}
use mathlib.Core.List.{List, [], ◌∷◌}
use mathlib.Core.Path.{◌≡◌, refl, sym, ◌∙◌}
use Prim.Native.Nat.{ℕ, zero, suc, ◌+◌, ◌*◌, ◌^◌, ◌≤◌, ◌<◌}
use native.Mathlib.Decide.{dec_le}
use native.Mathlib.Nat.{zero-div}
use native.Mathlib.Omega.{arith}
use borrow.Author.Tests.{ltb-false, leb-false}
use lib.Bits.{bit_or}
use lib.Dec.{ltb, leb}
use lib.ListN.{length, get_or, set, length-set, length-replicate, get_or-eq_default}
use lib.Seq.{set_out}
use Rattle.sizes.specs.Sizes.{most_tones, most_words, word_tones, words_of, longest_sheet, most_power, pair_cap}
use Rattle.lists.proofs.Tests.{by-test}
use Rattle.lists.proofs.Stores.{all_same, after_store}
use Rattle.bigendian.specs.Number.{number}
use Rattle.bigendian.proofs.Numbers.{byte-from, number_lt, number-there, number-from}
use Rattle.silence.specs.Map.{bit, names_beyond}
use Rattle.silence.proofs.Maps.{beyond-clear, joined-bit, joined-lt}
use Rattle.gaps.specs.Gap.{gap_unit, most_gap, most_tenths, PartsInRange, GapInRange}
use Rattle.gaps.proofs.Rule.{parts-in-range}
use Rattle.readings.specs.Reading.{is_usable, Usable, is_over}
use Rattle.readings.proofs.Readings.{usable-float, cost-low, granted}
use Rattle.line.specs.declared.Numbers.{Numbers}
use Rattle.line.specs.declared.ReadNumbers.{ReadNumbers}
use Rattle.line.specs.declared.Kind.{Kind}
use Rattle.line.specs.declared.Kind.TheVariants.{Pair, Single, Read}
use Rattle.line.specs.Tone.{kind_of, most_cap, kind_cost, noise_of, has_noise, HighInRange, KindInRange, NumbersInRange, InRange}
use Rattle.line.specs.Line.{Entry, undescribed, described, with_rest, with_high, EntryInRange, Line, gap_of, entry_of, rest_total, LineInRange}
use Rattle.line.proofs.Costs.{whole-range}
use Rattle.line.proofs.Rested.{rest-taken}
use Rattle.noises.specs.Noises.{entry_has_noise, entry_low}
use Rattle.rows.specs.declared.Header.{Header}
use Rattle.rows.specs.declared.Command.TheVariants.{Describe, Silence}
use Rattle.addresses.specs.Addresses.{code_of, number_width, short_of, addressed}
use Rattle.places.specs.Places.{numbers_at, levels_at, ratio_at, kind_at, tone_at, rest_at, high_at}
use Rattle.rows.specs.Rows.{Seen, Operand, is_rest_of, takes_high, describing, numbers, level_operands, ratio_operands, levels, ratio, rest, high, silence, width}
use Rattle.command.specs.Format.{today}
use Rattle.command.proofs.Walk.{Each, Passed, passes, takes, in_within}
use Rattle.sheet.specs.Reading.{accepted, header_of, bare_line, with_entry, effect, SoFar, known_of, said_in, said, reading}
use Rattle.sheet.proofs.Walk.{Leads, said-by}
use Rattle.sheet.proofs.Rests.{never, accepted-is}

-- a sheet's elements are bytes
abbrev pub Bytes : List ℕ → Type 0
Bytes s = (i : ℕ) → get_or s i 0 < 256

pub record Sound (l : Line) : Type 0 where
  pub in_range : LineInRange l
  pub entries_sized : length l.entries ≡ l.size
  pub maps_sized : length l.maps ≡ words_of l.size
  pub maps_small : (word : ℕ) → get_or l.maps word 0 < 2 ^ 32
  pub maps_within : (word k : ℕ) → l.size ≤ word_tones * word + k → bit (get_or l.maps word 0) k ≡ 0

-- every tone is in range, past the line's last as one not described
pub all-in-range : {l : Line} → Sound l → (i : ℕ) → EntryInRange (gap_of l) (entry_of l i)
all-in-range {l} z i = by (dec_le l.size i)
  where
    by : Dec (l.size ≤ i) → EntryInRange (gap_of l) (entry_of l i)
    by (yes h) = rw (get_or-eq_default l.entries undescribed {n = i} (omega (arith, z.entries_sized))) tt
    by (no h) = z.in_range.entries i (omega arith)

-- ---- what the commands do to the line

-- what holds of the new element, and of each old one, holds after a store; past the end nothing is stored
pub after-any-store : {A : Type 0} (P : ℕ → A → Type 0) (l : List A) (i : ℕ) (v d : A) (j : ℕ) → (j ≡ i → P j v) → P j (get_or l j d) → P j (get_or (set l i v) j d)
after-any-store P l i v d j new old = by (dec_le (length l) i)
  where
    by : Dec (length l ≤ i) → P j (get_or (set l i v) j d)
    by (yes h) = rw (set_out l i v h) old
    by (no h) = after_store P l i v d j (omega arith) new old

pub record SizeInRange (n : ℕ) : Type 0 where
  pub low : 1 ≤ n
  pub high : n ≤ most_tones

bare-sound : (h : Header) → SizeInRange h.size → GapInRange h.gap → h.budget ≤ most_power → Sound (bare_line h)
bare-sound h z g b = record {
  in_range = record {
    size_low = z.low;
    size_high = z.high;
    gap = g;
    budget_high = b;
    entries = λ i k. rw (all_same h.size i undescribed) tt;
  };
  entries_sized = length-replicate h.size undescribed;
  maps_sized = length-replicate {A = ℕ} (words_of h.size) 0;
  maps_small = λ word. omega (arith, no_map word);
  maps_within = λ word k q. rw (no_map word, zero-div);
}
  where
    no_map : (word : ℕ) → get_or (bare_line h).maps word 0 ≡ 0
    no_map word = all_same {A = ℕ} (words_of h.size) word 0

-- a tone with another entry
stored : (i : ℕ) (e : Entry) (l : Line) → Sound l → EntryInRange (gap_of l) e → Sound (with_entry l i e)
stored i e l z r = record {
  in_range = record {
    size_low = z.in_range.size_low;
    size_high = z.in_range.size_high;
    gap = z.in_range.gap;
    budget_high = z.in_range.budget_high;
    entries = λ j k. after-any-store (λ j. EntryInRange (gap_of l)) l.entries i _ undescribed j (λ q. r) (z.in_range.entries j k);
  };
  entries_sized = length-set l.entries i _ ∙ z.entries_sized;
  maps_sized = z.maps_sized;
  maps_small = z.maps_small;
  maps_within = z.maps_within;
}

-- the high noise of a tone that has had none is its own
own-noise : (k : Kind) → KindInRange k → HighInRange k (noise_of k)
own-noise (Pair n) I = record { at_least = omega arith; two_bytes = I.noise_high }
own-noise (Single n) I = record { at_least = omega arith; two_bytes = I.noise_high }
own-noise (Read n) I = refl

-- a tone has neither rest nor high noise when it is described
describes : (s : List ℕ) (at i : ℕ) (l : Line) → Sound l → InRange (gap_of l) (tone_at s at) → Sound (effect (Describe i) s at l)
describes s at i l z r = stored i _ l z (r, record { rest = record { below_cost = r.cost.low; within_mask = omega arith }; high = own-noise (tone_at s at).kind r.kind })

-- and then one that 15 leaves
rest-in-range : (g rest : ℕ) (e : Entry) → EntryInRange g e → is_rest_of g e rest ≡ true → EntryInRange g (with_rest rest e)
rest-in-range g rest undescribed I h = tt
rest-in-range g rest (described t a) I h = (I.0, record { rest = rest-taken g t rest h; high = I.1.high })

-- a high noise that 4 leaves
widened-noise : (k : Kind) (high : ℕ) → has_noise k ≡ true → noise_of k ≤ high → high ≤ 65535 → HighInRange k high
widened-noise (Pair n) high has l h = record { at_least = l; two_bytes = h }
widened-noise (Single n) high has l h = record { at_least = l; two_bytes = h }
widened-noise (Read n) high has l h = absurd (true≢false (sym has))

high-in-range : (g high : ℕ) (e : Entry) → EntryInRange g e → entry_has_noise e ≡ true → entry_low e ≤ high → high ≤ 65535 → EntryInRange g (with_high high e)
high-in-range g high undescribed I has l h = tt
high-in-range g high (described t a) I has l h = (I.0, record { rest = I.1.rest; high = widened-noise t.kind high has l h })

silences : (s : List ℕ) (at word map : ℕ) (l : Line) → Sound l → map < 2 ^ 32 → names_beyond l.size word map ≡ false → Sound (effect (Silence word map) s at l)
silences s at word map l z small e = record {
  in_range = record {
    size_low = z.in_range.size_low;
    size_high = z.in_range.size_high;
    gap = z.in_range.gap;
    budget_high = z.in_range.budget_high;
    entries = z.in_range.entries;
  };
  entries_sized = z.entries_sized;
  maps_sized = length-set l.maps word _ ∙ z.maps_sized;
  maps_small = λ w. after-any-store (λ w m. m < 2 ^ 32) l.maps word _ 0 w (λ e. joined-lt old map (z.maps_small word) small) (z.maps_small w);
  maps_within = λ w k q. after-any-store (λ w m. bit m k ≡ 0) l.maps word _ 0 w (λ e. both w k q e) (z.maps_within w k q);
}
  where
    old : ℕ
    old = get_or l.maps word 0

    both : (w k : ℕ) → l.size ≤ word_tones * w + k → w ≡ word → bit (bit_or old map) k ≡ 0
    both w k q i = omega (arith, joined-bit old map k, z.maps_within word k (omega arith), beyond-clear l.size word map small e k (omega arith))

-- ---- the rows

-- what the operands of a tone keep to is the range of what it carries, at the line's gap
numbers-in-range : (g : ℕ) (single : Bool) (n : Numbers) → PartsInRange g → NumbersInRange n → n.cap ≤ most_cap single → n.mask ≤ most_power
    → InRange g (record { kind = kind_of single n })
unfolding kind_cost
numbers-in-range g false n G I c m = record { kind = I; bounds = record { cap_high = c; mask_high = m }; cost = whole-range g n I G }
numbers-in-range g true n G I c m = record { kind = I; bounds = record { cap_high = c; mask_high = m }; cost = whole-range g n I G }

read-in-range : (g : ℕ) (n : ReadNumbers) → Usable n.reading → is_over g n.reading ≡ false → n.cap ≤ pair_cap → n.mask ≤ most_power
    → InRange g (record { kind = Read n })
unfolding kind_cost
read-in-range g n u over c m =
    let k = granted g n.reading over in
    record {
      kind = record { usable = u; ratio_finite = k.0 };
      bounds = record { cap_high = c; mask_high = m };
      cost = record { low = cost-low g n.reading; high = k.1 };
    }

-- What holds after so many of the first three commands.
abbrev pub Along : (at stage : ℕ) → SoFar → Type 0
Along at zero x = Unit {0}
Along at (suc zero) x = SizeInRange x.line.size
Along at (suc (suc zero)) x = SizeInRange x.line.size × GapInRange x.line.gap
Along at (suc (suc (suc n))) x = Sound x.line

module _ (s : List ℕ) (bytes : Bytes s) where
  module _ (at : ℕ) (x : SoFar) where
    abbrev l : Line
    l = x.line

    -- what the operands after a tone's number see
    abbrev seen_after : (w : ℕ) → Seen
    seen_after w = record { header = header_of l; known = known_of x (addressed s at); before = number s (at + 1) w ∷ [] }

    -- the tone that a command describes is the one that its byte has, with what it carries
    tone-leads : (n w short : ℕ) (os : List Operand) (kind : Kind) → short_of (code_of w short) ≡ short → number_width (code_of w short) ≡ w
        → kind_at short s (at + 1 + w) ≡ kind → Sound l
        → (at + 1 + w + width os ≤ length s → Passed (seen_after w) s (at + 1 + w) os
        → InRange (gap_of l) (record { kind = kind }))
        → Leads today s Along Sound at (suc (suc (suc n))) x (describing w short os)
    tone-leads n w short os kind back wide is z range own fits p =
        describes s at _ l z (rw (own, back, wide, is) (range (omega (arith, fits)) p.1))

    -- 04 and 05
    numbers-lead : (n w short : ℕ) (single : Bool) → short_of (code_of w short) ≡ short → number_width (code_of w short) ≡ w
        → kind_at short s (at + 1 + w) ≡ kind_of single (numbers_at s (at + 1 + w)) → Sound l
        → Leads today s Along Sound at (suc (suc (suc n))) x (describing w short (numbers single))
    numbers-lead n w short single back wide kind z = tone-leads n w short (numbers single) (kind_of single (numbers_at s (at + 1 + w))) back wide kind z (range (at + 1 + w))
      where
        range : (from : ℕ) → from + width (numbers single) ≤ length s
            → Passed (seen_after w) s from (numbers single)
            → InRange (gap_of l) (record { kind = kind_of single (numbers_at s from) })
        range from whole p =
            let noise = in_within (number s from 2) 1 65535 _ _ p.0 in
            let gain = in_within (number s (from + 2) 2) 1 65535 _ _ p.1.0 in
            let cap = in_within (number s (from + 2 + 2) 1) 0 (most_cap single) _ _ p.1.1.0 in
            let mask = in_within (number s (from + 2 + 2 + 1) 8) 0 most_power _ _ p.1.1.1.0 in
            let noise-is = number-there s from 2 (omega arith) (omega arith) in
            let gain-is = number-there s (from + 2) 2 (omega arith) (omega arith) in
            let cap-is = byte-from s from 4 (from + 2 + 2) (omega arith) in
            let mask_is = number-from s from 13 5 8 (from + 2 + 2 + 1) whole (omega arith) (omega arith) (omega arith) in
            let keeps : NumbersInRange (numbers_at s from) = record { noise_low = omega arith; noise_high = omega arith; gain_low = omega arith; gain_high = omega arith } in
            numbers-in-range (gap_of l) single (numbers_at s from) (parts-in-range l.gap z.in_range.gap) keeps (omega arith) (omega arith)

    -- 09 and 0A, whose floats were judged with the gap
    levels-lead : (n w : ℕ) → short_of (code_of w 9) ≡ 9 → number_width (code_of w 9) ≡ w → Sound l → Leads today s Along Sound at (suc (suc (suc n))) x (levels w)
    levels-lead n w back wide z = tone-leads n w 9 level_operands (Read (levels_at s (at + 1 + w))) back wide refl z (range (at + 1 + w))
      where
        range : (from : ℕ) → from + width level_operands ≤ length s
            → Passed (seen_after w) s from level_operands
            → InRange (gap_of l) (record { kind = Read (levels_at s from) })
        range from whole p =
            let noise = (takes (is_usable (number s from 4)) _ _ p.0).0 in
            let gain = takes (is_usable (number s (from + 4) 4)) _ _ p.1.0 in
            let cap = in_within (number s (from + 4 + 4) 1) 0 pair_cap _ _ p.1.1.0 in
            let mask = in_within (number s (from + 4 + 4 + 1) 8) 0 most_power _ _ p.1.1.1.0 in
            let noise-is = number-there s from 4 (omega arith) (omega arith) in
            let gain-is = number-there s (from + 4) 4 (omega arith) (omega arith) in
            let cap-is = byte-from s from 8 (from + 4 + 4) (omega arith) in
            let mask_is = number-from s from 17 9 8 (from + 4 + 4 + 1) whole (omega arith) (omega arith) (omega arith) in
            read-in-range (gap_of l) (levels_at s from) (rw (noise-is, gain-is) (usable-float _ noise, usable-float _ gain.0))
            (rw (noise-is, gain-is) (passes _ _ _ gain.1).0) (omega arith) (omega arith)

    ratio-leads : (n w : ℕ) → short_of (code_of w 10) ≡ 10 → number_width (code_of w 10) ≡ w → Sound l → Leads today s Along Sound at (suc (suc (suc n))) x (ratio w)
    ratio-leads n w back wide z = tone-leads n w 10 ratio_operands (Read (ratio_at s (at + 1 + w))) back wide refl z (range (at + 1 + w))
      where
        range : (from : ℕ) → from + width ratio_operands ≤ length s
            → Passed (seen_after w) s from ratio_operands
            → InRange (gap_of l) (record { kind = Read (ratio_at s from) })
        range from whole p =
            let float = takes (is_usable (number s from 4)) _ _ p.0 in
            let cap = in_within (number s (from + 4) 1) 0 pair_cap _ _ p.1.0 in
            let mask = in_within (number s (from + 4 + 1) 8) 0 most_power _ _ p.1.1.0 in
            let Float-is = number-there s from 4 (omega arith) (omega arith) in
            let cap-is = byte-from s from 4 (from + 4) (omega arith) in
            let mask_is = number-from s from 13 5 8 (from + 4 + 1) whole (omega arith) (omega arith) (omega arith) in
            read-in-range (gap_of l) (ratio_at s from) (rw Float-is (usable-float _ float.0)) (rw Float-is (passes _ _ _ float.1).0) (omega arith) (omega arith)

    silence-leads : (n : ℕ) → Sound l → Leads today s Along Sound at (suc (suc (suc n))) x (silence most_words)
    silence-leads n z is fits p =
        let word = number s (at + 1) 1 in
        let map = number s (at + 1 + 1) 4 in
        silences s at word map l z (number_lt s (at + 1 + 1) 4 (λ i k. bytes (at + 1 + 1 + i))) (passes (names_beyond l.size word map) _ _ p.1.0).0

    rest-leads : (n w : ℕ) → number_width (rest w).code ≡ w → Sound l → Leads today s Along Sound at (suc (suc (suc n))) x (rest w)
    rest-leads n w wide z own fits p =
        let i = number s (at + 1) w in
        let tone : i ≡ addressed s at = rw (own, wide) in
        let value : rest_at s at ≡ number s (at + 1 + w) 4 = rw (own, wide) (number-there s (at + 1 + w) 4 (omega arith) (omega (arith, fits))) in
        let given = (takes (is_rest_of (gap_of l) (entry_of l (addressed s at)) (number s (at + 1 + w) 4)) _ _ p.1.0).0 in
        stored i _ l z (rest-in-range (gap_of l) (rest_at s at) (entry_of l i) (z.in_range.entries i (leb-false _ _ (passes (leb l.size i) _ _ p.0).0)) (rw (tone, value) given))

    high-leads : (n w : ℕ) → number_width (high w).code ≡ w → Sound l → Leads today s Along Sound at (suc (suc (suc n))) x (high w)
    high-leads n w wide z own fits p =
        let i = number s (at + 1) w in
        let tone : i ≡ addressed s at = rw (own, wide) in
        let value : high_at s at ≡ number s (at + 1 + w) 2 = rw (own, wide) (number-there s (at + 1 + w) 2 (omega arith) (omega (arith, fits))) in
        let line = passes (leb l.size i) _ _ p.0 in
        let described = takes (takes_high (known_of x (addressed s at))) _ _ line.1 in
        let has = (takes (entry_has_noise (entry_of l (addressed s at))) _ _ described.1).0 in
        let no_lower = ltb-false _ _ (passes (ltb (number s (at + 1 + w) 2) (entry_low (entry_of l (addressed s at)))) _ _ p.1.0).0 in
        let small : number s (at + 1 + w) 2 < 65536 = number_lt s (at + 1 + w) 2 (λ i k. bytes (at + 1 + w + i)) in
        stored i _ l z (high-in-range (gap_of l) (high_at s at) (entry_of l i) (z.in_range.entries i (leb-false _ _ line.0)) (rw tone has) (rw (tone, value) no_lower) (omega arith))

  pub kept : (at stage : ℕ) (x : SoFar) → Along at stage x → Each (Leads today s Along Sound at stage x) (today.rows stage)
  kept at zero x a =
      (λ is fits p. let v = in_within (number s (at + 1) 2) 1 most_tones _ _ p.0 in record { low = v.0; high = v.1 }, tt)
  kept at (suc zero) x a = (
    λ is fits p. let v = in_within (number s (at + 1) 2) gap_unit most_gap _ _ p.0 in (a, record { low = v.0; high = v.1 }),
    (λ is fits p. (a, (in_within (number s (at + 1) 1) 0 most_tenths _ _ p.0).1), tt),
  )
  kept at (suc (suc zero)) x a =
      (λ is fits p. let v = in_within (number s (at + 1) 8) 0 most_power _ _ p.0 in bare-sound _ a.0 a.1 v.1, tt)
  kept at (suc (suc (suc n))) x z = (
    numbers-lead at x n 1 4 false refl refl refl z,
    (
      numbers-lead at x n 1 5 true refl refl refl z,
      (
        silence-leads at x n z,
        (
          λ is fits p e. z,
          (
            levels-lead at x n 1 refl refl z,
            (
              ratio-leads at x n 1 refl refl z,
              (
                rest-leads at x n 1 refl z,
                (
                  numbers-lead at x n 2 4 false refl refl refl z,
                  (numbers-lead at x n 2 5 true refl refl refl z, (levels-lead at x n 2 refl refl z, (ratio-leads at x n 2 refl refl z, (rest-leads at x n 2 refl z, (high-leads at x n 1 refl z, (high-leads at x n 2 refl z, tt)))))),
                ),
              ),
            ),
          ),
        ),
      ),
    ),
  )

  pub said-sound : (l : Line) → said s ≡ accepted l → Sound l
  said-sound = said-by today s Along Sound kept tt

  pub accepted-sound : (l : Line) → reading s ≡ accepted l → Sound l
  accepted-sound l e = said-sound l (accepted-is today s l e).says

pub accepted-fits : (s : List ℕ) (l : Line) → reading s ≡ accepted l → rest_total l ≤ l.budget
accepted-fits s l e = (accepted-is today s l e).fits

pub accepted-short : (s : List ℕ) (l : Line) → reading s ≡ accepted l → length s ≤ longest_sheet
unfolding said_in
accepted-short s l e =
    by-test (λ m. m ≡ accepted l → length s ≤ longest_sheet) (ltb longest_sheet (length s)) (λ t f. never f) (λ t f. ltb-false longest_sheet (length s) t)
    (accepted-is today s l e).says
