-- Operands in range, and the commands of a tone: its own is allowed, describes the tone, and meets no refusal where the tone is in range;
-- nor does its rest's, where the tone is described and has had none; nor its high noise's, where that is not the noise.
-- Assumes nothing.
use mathlib.Core.Path.{◌≡◌, refl, ap}
use mathlib.Core.Bool.{Bool, false, true}
use mathlib.Core.List.{List, [], ◌∷◌, ◌++◌}
use mathlib.Core.Logic.{⊎_elim}
use mathlib.Core.Option.{some}
use Prim.Native.Nat.{ℕ, ◌^◌, ◌≤◌, ◌<◌}
use native.Mathlib.Omega.{arith}
use borrow.Author.Tests.{le-ltb, lt-leb}
use lib.Ieee.{Float, binary32, to_bits}
use lib.ListN.{get_or}
use Rattle.sizes.specs.Sizes.{pair_cap, most_power, most_cost}
use Rattle.silence.specs.Map.{names_beyond}
use Rattle.gaps.specs.Gap.{parts}
use Rattle.readings.specs.declared.Reading.{Reading}
use Rattle.readings.specs.declared.Reading.TheVariants.{Both, Ratio}
use Rattle.readings.specs.Reading.{FloatInRange, reading_cost, is_over, ReadingInRange}
use Rattle.readings.proofs.Readings.{back-usable, back_fits, float_back, not-over}
use Rattle.line.specs.declared.Numbers.{Numbers}
use Rattle.line.specs.declared.Kind.{Kind}
use Rattle.line.specs.declared.Kind.TheVariants.{Pair, Single, Read}
use Rattle.line.specs.declared.Tone.{Tone}
use Rattle.line.specs.Tone.{most_cap, kind_cost, NumbersInRange, InRange, RestInRange, noise_of, has_noise, NoiseRange, HighInRange}
use Rattle.line.specs.Line.{Added, described, is_described}
use Rattle.line.proofs.Rested.{takes-rest}
use Rattle.noises.specs.Noises.{entry_has_noise, entry_low}
use Rattle.addresses.proofs.Widths.{IsWidth}
use Rattle.rows.specs.declared.Header.{Header}
use Rattle.rows.specs.declared.Command.TheVariants.{Describe}
use Rattle.rows.specs.Rows.{Known, Seen, Operand, takes_rest, takes_high, is_rest_of, Row, within, tone_number, rested_tone, rest_operand, widened_tone, high_operand, float, last_float, map, levels_of, ratio_of, cap_and_mask, numbers, rest, high, with_code}
use Rattle.command.specs.Format.{today}
use Rattle.command.proofs.Walk.{seen_at}
use Rattle.tidyform.specs.Tidy.{reading_row, reading_bits, kind_row, kind_values}
use Rattle.tidyform.proofs.Parts.{row_is}
use Rattle.tidyform.proofs.Written.{after, Good, no_value, value}

-- Operands in range.

-- a value from low to high
pub ranged : {seen : Seen} {os : List Operand} {vs : List ℕ} (w low high v : ℕ) → v < 256 ^ w → low ≤ v → v ≤ high → Good (after seen v) os vs
    → Good seen (within w low high ∷ os) (v ∷ vs)
ranged {seen} w low high v f a b = value {seen = seen} {o = within w low high} f (λ place. rw (le-ltb v low a, le-ltb high v b))

-- a tone below N, not yet described
new_tone : {seen : Seen} {os : List Operand} {vs : List ℕ} (w i : ℕ) → i < 256 ^ w → i < seen.header.size → is_described seen.known.entry ≡ false
    → Good (after seen i) os vs → Good seen (tone_number w ∷ os) (i ∷ vs)
new_tone {seen} w i f a b = value {seen = seen} {o = tone_number w} f (λ place. rw (lt-leb seen.header.size i a, b))

-- a tone below N, described, that has had no rest; and a rest that it takes
rest_tone : {seen : Seen} {os : List Operand} {vs : List ℕ} (w i : ℕ) → i < 256 ^ w → i < seen.header.size → takes_rest seen.known ≡ true
    → Good (after seen i) os vs → Good seen (rested_tone w ∷ os) (i ∷ vs)
rest_tone {seen} w i f a b = value {seen = seen} {o = rested_tone w} f (λ place. rw (lt-leb seen.header.size i a, b))

new_rest : {seen : Seen} (r : ℕ) → r < 2 ^ 32 → is_rest_of (parts seen.header.gap) seen.known.entry r ≡ true → Good seen (rest_operand ∷ []) (r ∷ [])
new_rest {seen} r f a = value {seen = seen} {o = rest_operand} f (λ place. rw a) no_value

-- a tone below N, described with a noise, that has had no high noise; and one that is not below the noise
high_tone : {seen : Seen} {os : List Operand} {vs : List ℕ} (w i : ℕ) → i < 256 ^ w → i < seen.header.size → takes_high seen.known ≡ true
    → entry_has_noise seen.known.entry ≡ true → Good (after seen i) os vs → Good seen (widened_tone w ∷ os) (i ∷ vs)
high_tone {seen} w i f a b c = value {seen = seen} {o = widened_tone w} f (λ place. rw (lt-leb seen.header.size i a, b, c))

new_high : {seen : Seen} (v : ℕ) → v ≤ 65535 → entry_low seen.known.entry ≤ v → Good seen (high_operand ∷ []) (v ∷ [])
new_high {seen} v f a = value {seen = seen} {o = high_operand} {v = v} (omega arith) (λ place. rw (le-ltb v (entry_low seen.known.entry) a)) no_value

-- a map of 32 bits that names no tone from N on; its word stands before it
pub new_map : {seen : Seen} (v : ℕ) → v < 2 ^ 32 → names_beyond seen.header.size (get_or seen.before 0 0) v ≡ false → Good seen (map ∷ []) (v ∷ [])
new_map {seen} v f a = value {seen = seen} {o = map} f (λ place. rw a) no_value

-- a float in range, by its bits
usable : {seen : Seen} {os : List Operand} {vs : List ℕ} (x : Float) → FloatInRange x → Good (after seen (to_bits binary32 x)) os vs
    → Good seen (float ∷ os) (to_bits binary32 x ∷ vs)
usable {seen} x R = value {seen = seen} {o = float} {v = to_bits binary32 x} (omega (arith, back_fits x R)) (λ place. rw (back-usable x R))

-- the last float of a command, whose reading is not over
last_usable : {seen : Seen} {os : List Operand} {vs : List ℕ} (back : ℕ) (reading : List ℕ → Reading) (x : Float) → FloatInRange x
    → is_over (parts seen.header.gap) (reading (seen.before ++ (to_bits binary32 x ∷ []))) ≡ false → Good (after seen (to_bits binary32 x)) os vs
    → Good seen (last_float back reading ∷ os) (to_bits binary32 x ∷ vs)
last_usable {seen} back reading x R over =
    value {seen = seen} {o = last_float back reading} {v = to_bits binary32 x} (omega (arith, back_fits x R)) (λ place. rw (back-usable x R, over))

-- a cap and a mask in range
bounds : {seen : Seen} (most c m : ℕ) → most < 256 → c ≤ most → m ≤ most_power → Good seen (cap_and_mask most) (c ∷ m ∷ [])
bounds most c m small c-high m-high = ranged 1 0 most c (omega arith) (omega arith) c-high (ranged 8 0 most_power m (omega arith) (omega arith) m-high no_value)

-- A tone's command.

-- it is allowed after the first three commands, and describes the tone
pub tone-found : (w : ℕ) → IsWidth w → (k : Kind) → with_code (today.rows 3) (kind_row w k).code ≡ some (kind_row w k)
tone-found w wide (Pair n) = ⊎_elim (λ e. rw e) (λ e. rw e) wide
tone-found w wide (Single n) = ⊎_elim (λ e. rw e) (λ e. rw e) wide
tone-found w wide (Read n) = by n.reading
  where
    by : (r : Reading) → with_code (today.rows 3) (reading_row w r).code ≡ some (reading_row w r)
    by (Both l) = ⊎_elim (λ e. rw e) (λ e. rw e) wide
    by (Ratio x) = ⊎_elim (λ e. rw e) (λ e. rw e) wide

pub rest-found : (w : ℕ) → IsWidth w → with_code (today.rows 3) (rest w).code ≡ some (rest w)
rest-found w = ⊎_elim (λ e. rw e) (λ e. rw e)

pub high-found : (w : ℕ) → IsWidth w → with_code (today.rows 3) (high w).code ≡ some (high w)
high-found w = ⊎_elim (λ e. rw e) (λ e. rw e)

pub tone-does : (w : ℕ) (k : Kind) (h : Header) (vs : List ℕ) → (kind_row w k).does h vs ≡ Describe (get_or vs 0 0)
tone-does w k h vs = ap (λ (r : Row). r.does h vs) (row_is w k)

-- it meets no refusal
module _ (h : Header) (known : Known) (w i : ℕ) (small : i < 256 ^ w) (of_line : i < h.size) (new : is_described known.entry ≡ false) where
  good-numbers : (is_single : Bool) (n : Numbers) → NumbersInRange n → most_cap is_single < 256 → n.cap ≤ most_cap is_single → n.mask ≤ most_power
      → Good (seen_at h known) (tone_number w ∷ numbers is_single) (i ∷ n.noise ∷ n.gain ∷ n.cap ∷ n.mask ∷ [])
  good-numbers is_single n I s c m =
      new_tone w i small of_line new
      (ranged 2 1 65535 n.noise (omega (arith, I.noise_high)) I.noise_low I.noise_high
      (ranged 2 1 65535 n.gain (omega (arith, I.gain_high)) I.gain_low I.gain_high
      (bounds (most_cap is_single) n.cap n.mask s c m)))

  good-reading : (r : Reading) (c m : ℕ) → ReadingInRange r → reading_cost (parts h.gap) r ≤ most_cost → c ≤ pair_cap → m ≤ most_power
      → Good (seen_at h known) (reading_row w r).operands (i ∷ (reading_bits r ++ (c ∷ m ∷ [])))
  good-reading (Both l) c m I high c-high m-high =
      let u = I.usable in
      let over : is_over (parts h.gap) (levels_of (i ∷ to_bits binary32 l.noise ∷ to_bits binary32 l.gain ∷ [])) ≡ false =
      rw (float_back l.noise u.0, float_back l.gain u.1) (not-over (parts h.gap) (Both l) I.ratio_finite high) in
      new_tone w i small of_line new (usable l.noise u.0 (last_usable 4 levels_of l.gain u.1 over (bounds pair_cap c m (omega arith) c-high m-high)))
  good-reading (Ratio x) c m I high c-high m-high =
      let over : is_over (parts h.gap) (ratio_of (i ∷ to_bits binary32 x ∷ [])) ≡ false =
      rw (float_back x I.usable) (not-over (parts h.gap) (Ratio x) I.ratio_finite high) in
      new_tone w i small of_line new (last_usable 0 ratio_of x I.usable over (bounds pair_cap c m (omega arith) c-high m-high))

  pub good-tone : (k : Kind) → InRange (parts h.gap) (record { kind = k }) → Good (seen_at h known) (kind_row w k).operands (i ∷ kind_values k)
  unfolding kind_cost
  good-tone (Pair n) I = good-numbers false n I.kind (omega arith) I.bounds.cap_high I.bounds.mask_high
  good-tone (Single n) I = good-numbers true n I.kind (omega arith) I.bounds.cap_high I.bounds.mask_high
  good-tone (Read n) I = good-reading n.reading n.cap n.mask I.kind I.cost.high I.bounds.cap_high I.bounds.mask_high

-- Its rest's.

pub good-rest : (h : Header) (known : Known) (w i : ℕ) (t : Tone) (old : Added) (r : ℕ) → i < 256 ^ w → i < h.size → known.entry ≡ described t old → known.rested ≡ false
    → InRange (parts h.gap) t → RestInRange (parts h.gap) t r → Good (seen_at h known) (rest w).operands (i ∷ r ∷ [])
good-rest h known w i t old r small of_line is new I R =
    rest_tone w i small of_line (rw (is, new)) (new_rest r (omega (arith, R.below_cost, I.cost.high)) (rw is (takes-rest (parts h.gap) t r R)))

-- Its high noise's: one that is not the noise is of a tone with whole numbers.

pub record Widens (k : Kind) (h : ℕ) : Type 0 where
  pub has : has_noise k ≡ true
  pub range : NoiseRange (noise_of k) h

pub widens : (k : Kind) (h : ℕ) → HighInRange k h → (h ≡ noise_of k → ⊥) → Widens k h
widens (Pair n) h R other = record { has = refl; range = R }
widens (Single n) h R other = record { has = refl; range = R }
widens (Read n) h R other = absurd (other R)

pub good-high : (h : Header) (known : Known) (w i : ℕ) (t : Tone) (old : Added) (v : ℕ) → i < 256 ^ w → i < h.size → known.entry ≡ described t old → known.widened ≡ false
    → Widens t.kind v → Good (seen_at h known) (high w).operands (i ∷ v ∷ [])
good-high h known w i t old v small of_line is new W =
    high_tone w i small of_line (rw (is, new)) (rw is W.has) (new_high v W.range.two_bytes (rw is W.range.at_least))
