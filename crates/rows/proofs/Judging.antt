-- Laws of the rows:
-- - `below`, `above`, `in_range`: what an operand with a range decides;
-- - `one-operand`, `silence-operands`, `rest-operands`, `high-operands`: a command as a chain of tests at the places of its operands;
-- - `tone-operands`, `number-operands`, `level-operands`, `ratio-operands`, `cap-operands`: the same of a tone's, from one operand on;
-- - `described-at`, `rest-taken-at`, `high-taken-at`, `rest-judged`, `noise-judged`, `low-judged`: whether a tone is described, and what it takes, from its places;
-- - `header-width`, `number-codes`, `tone-row`, `rest-row`, `high-row`, `end_row`: the rows by their bytes, as the code finds them.
-- Assumes nothing.
use mathlib.Core.Path.{◌≡◌, refl, sym, ap}
use mathlib.Core.Bool.{Bool, true, false, not, ◌&&◌, cond}
use mathlib.Core.Logic.{inl, inr, ⊎_elim}
use mathlib.Core.List.{List, [], ◌∷◌}
use mathlib.Core.Option.{Option, none, some}
use Prim.Native.Nat.{ℕ, zero, suc, ◌+◌, ◌-◌, ◌≤◌, ◌<◌}
use native.Mathlib.Nat.{add_assoc}
use native.Mathlib.Omega.{arith}
use borrow.Author.Tests.{le-ltb, lt-ltb, ne_eqb}
use lib.Dec.{leb, ltb, eqb}
use lib.ListN.{get_or}
use Rattle.std.specs.Prelude.{Result, Ok, Err}
use Rattle.sizes.specs.Sizes.{most_words, pair_cap, most_power}
use Rattle.bigendian.specs.Number.{number}
use Rattle.bigendian.proofs.Numbers.{number-one}
use Rattle.silence.specs.Map.{names_beyond}
use Rattle.gaps.specs.Gap.{parts}
use Rattle.readings.specs.Reading.{is_usable, is_over}
use Rattle.line.specs.Tone.{most_cap, is_rest, noise_of, has_noise}
use Rattle.line.specs.Line.{is_described}
use Rattle.refusals.specs.declared.Refusal.{Refusal}
use Rattle.refusals.specs.declared.Refusal.TheVariants.{OperandOutOfRange, ToneBeyondLine, ToneRepeated, FloatOutOfRange, CostOutOfRange, ToneCannotTake, RestOutOfRange}
use Rattle.addresses.specs.Addresses.{twin, short_of}
use Rattle.addresses.proofs.Widths.{one-of-both}
use Rattle.noises.specs.Noises.{entry_has_noise, entry_low}
use Rattle.places.specs.Places.{tone_at, entry_at}
use Rattle.places.proofs.Entries.{entry-there}
use Rattle.rows.specs.declared.Header.{Header}
use Rattle.rows.specs.declared.Command.{Command}
use Rattle.rows.specs.declared.Command.TheVariants.{Describe, Rest, High, Silence}
use Rattle.rows.specs.Rows.{Known, Operand, takes_rest, takes_high, is_rest_of, within, rest, high, describing, cap_and_mask, numbers, levels_of, ratio_of, level_operands, ratio_operands, end, width, judged, describes_from, row_at}
use Rattle.rows.specs.Codes.{known_at, silence_row, ToneCode, RestCode, HighCode, tone_operands, tone_row, rest_row, high_row, or_end, row_of}

-- ---- operands

-- a refusal that a test decides
judged-cond : (t : Bool) (o q : Option Refusal) (c : Result Command Refusal) → judged (cond t o q) c ≡ cond t (judged o c) (judged q c)
judged-cond true o q c = refl
judged-cond false o q c = refl

abbrev pub out_of_range : (place : ℕ) → Result Command Refusal
out_of_range place = Err (OperandOutOfRange place)

-- an operand with a range, and what the command does where its value v is in the range
unfoldable pub ranged : (v low high place : ℕ) → Result Command Refusal → Result Command Refusal
ranged v low high place rest = cond (ltb v low) (out_of_range place) (cond (ltb high v) (out_of_range place) rest)

-- What an operand's value decides; the code has it as v.
module _ (low high place : ℕ) (rest : Result Command Refusal) {v w : ℕ} (e : v ≡ w) where
  pub below : v < low → ranged w low high place rest ≡ out_of_range place
  unfolding ranged
  below l = rw (sym e, lt-ltb v low l)

  pub above : low ≤ v → high < v → ranged w low high place rest ≡ out_of_range place
  unfolding ranged
  above l h = rw (sym e, le-ltb v low l, lt-ltb high v h)

  pub in_range : low ≤ v → v ≤ high → ranged w low high place rest ≡ rest
  unfolding ranged
  in_range l h = rw (sym e, le-ltb v low l, le-ltb high v h)

-- ---- the commands, with the places of their operands

-- a command of one operand with a range
pub one-operand : (h : Header) (known : Known) (s : List ℕ) (at code w low high : ℕ) (does : Header → List ℕ → Command)
    → row_at h known s at (record { code = code; operands = within w low high ∷ []; does = does })
    ≡ ranged (number s (at + 1) w) low high (at + 1) (Ok (does h (number s (at + 1) w ∷ [])))
unfolding row_at ranged
one-operand h known s at code w low high does = simp judged-cond

-- the silence command
pub silence-operands : (h : Header) (known : Known) (s : List ℕ) (at : ℕ)
    → row_at h known s at silence_row
    ≡ ranged (get_or s (at + 1) 0) 0 (most_words - 1) (at + 1)
    (cond (names_beyond h.size (get_or s (at + 1) 0) (number s (at + 2) 4)) (Err (ToneBeyondLine (at + 2)))
    (Ok (Silence (get_or s (at + 1) 0) (number s (at + 2) 4))))
unfolding row_at ranged
silence-operands h known s at = simp (judged-cond, number-one, add_assoc)

-- the rest command
pub rest-operands : (h : Header) (known : Known) (s : List ℕ) (at w : ℕ) → (let i = number s (at + 1) w in let value = number s (at + 1 + w) 4 in
    row_at h known s at (rest w)
    ≡ cond (leb h.size i) (Err (ToneBeyondLine (at + 1)))
    (cond (takes_rest known)
    (cond (is_rest_of (parts h.gap) known.entry value) (Ok (Rest i)) (Err (RestOutOfRange (at + 1 + w))))
    (Err (ToneCannotTake (at + 1)))))
unfolding row_at
rest-operands h known s at w = simp judged-cond

-- the high noise's command
pub high-operands : (h : Header) (known : Known) (s : List ℕ) (at w : ℕ) → (let i = number s (at + 1) w in let value = number s (at + 1 + w) 2 in
    row_at h known s at (high w)
    ≡ cond (leb h.size i) (Err (ToneBeyondLine (at + 1)))
    (cond (takes_high known)
    (cond (entry_has_noise known.entry) (cond (ltb value (entry_low known.entry)) (out_of_range (at + 1 + w)) (Ok (High i))) (out_of_range (at + 1)))
    (Err (ToneCannotTake (at + 1)))))
unfolding row_at
high-operands h known s at w = simp judged-cond

-- a command that describes a tone, and then from one operand on
pub tone-operands : (h : Header) (known : Known) (s : List ℕ) (at w short : ℕ) (os : List Operand) → (let i = number s (at + 1) w in
    row_at h known s at (describing w short os)
    ≡ cond (leb h.size i) (Err (ToneBeyondLine (at + 1)))
    (cond (is_described known.entry) (Err (ToneRepeated (at + 1))) (describes_from h known (i ∷ []) s (at + 1 + w) os)))
unfolding row_at
tone-operands h known s at w short os = simp judged-cond

module _ (h : Header) (known : Known) (s : List ℕ) (at i : ℕ) where
  pub number-operands : (is_single : Bool) → (let noise = number s at 2 in let gain = number s (at + 2) 2 in
      describes_from h known (i ∷ []) s at (numbers is_single)
      ≡ ranged noise 1 65535 at
      (ranged gain 1 65535 (at + 2) (describes_from h known (i ∷ noise ∷ gain ∷ []) s (at + 4) (cap_and_mask (most_cap is_single)))))
  unfolding ranged
  number-operands is_single = simp (judged-cond, add_assoc)

  pub level-operands : (let noise = number s at 4 in let gain = number s (at + 4) 4 in
      describes_from h known (i ∷ []) s at level_operands
      ≡ cond (is_usable noise)
      (cond (is_usable gain)
      (cond (is_over (parts h.gap) (levels_of (i ∷ noise ∷ gain ∷ []))) (Err (CostOutOfRange at))
      (describes_from h known (i ∷ noise ∷ gain ∷ []) s (at + 8) (cap_and_mask pair_cap)))
      (Err (FloatOutOfRange (at + 4))))
      (Err (FloatOutOfRange at)))
  level-operands =
      let back : at + 4 - 4 ≡ at = omega arith in
      simp (judged-cond, add_assoc, back)

  pub ratio-operands : (let bits = number s at 4 in
      describes_from h known (i ∷ []) s at ratio_operands
      ≡ cond (is_usable bits)
      (cond (is_over (parts h.gap) (ratio_of (i ∷ bits ∷ []))) (Err (CostOutOfRange at))
      (describes_from h known (i ∷ bits ∷ []) s (at + 4) (cap_and_mask pair_cap)))
      (Err (FloatOutOfRange at)))
  ratio-operands =
      let back : at - 0 ≡ at = omega arith in
      simp (judged-cond, add_assoc, back)

  pub cap-operands : (values : List ℕ) (most : ℕ)
      → describes_from h known (i ∷ values) s at (cap_and_mask most)
      ≡ ranged (get_or s at 0) 0 most at (ranged (number s (at + 1) 8) 0 most_power (at + 1) (Ok (Describe i)))
  unfolding ranged
  cap-operands values most = simp (judged-cond, number-one)

-- a tone is described where its command has a place
pub described-at : (s : List ℕ) (rest high place : ℕ) → is_described (entry_at s place rest high) ≡ ltb 0 place
described-at s rest high zero = refl
described-at s rest high (suc p) = sym (lt-ltb 0 (suc p) (omega arith))

-- a tone takes a rest where its command has a place and its rest's has none, and a high noise so too; then it is judged by what stands at its place
module _ (s : List ℕ) (place rest high : ℕ) where
  pub rest-taken-at : takes_rest (known_at s place rest high) ≡ ltb 0 place && not (ltb 0 rest)
  rest-taken-at = rw (described-at s rest high place)

  pub high-taken-at : takes_high (known_at s place rest high) ≡ ltb 0 place && not (ltb 0 high)
  high-taken-at = rw (described-at s rest high place)

  pub rest-judged : (g v : ℕ) → 0 < place → is_rest_of g (entry_at s place rest high) v ≡ is_rest g (tone_at s place) v
  rest-judged g v h = rw (entry-there s rest high place h)

  pub noise-judged : 0 < place → entry_has_noise (entry_at s place rest high) ≡ has_noise (tone_at s place).kind
  noise-judged h = rw (entry-there s rest high place h)

  pub low-judged : 0 < place → entry_low (entry_at s place rest high) ≡ noise_of (tone_at s place).kind
  low-judged h = rw (entry-there s rest high place h)

-- ---- the row of a command byte

-- the operands of the first two commands have two bytes
pub header-width : (code : ℕ) → 1 ≤ code → code ≤ 2 → width (row_of code).operands ≡ 2
header-width zero l h = absurd (omega arith)
header-width (suc zero) l h = refl
header-width (suc (suc zero)) l h = refl
header-width (suc (suc (suc n))) l h = absurd (omega arith)

-- a short command that describes a tone, other than 9 and 10, has noise and gain as whole numbers
pub number-codes : (short : ℕ) → (short ≡ 9 → ⊥) → (short ≡ 10 → ⊥) → tone_operands short ≡ numbers (eqb short 5)
number-codes short p q = rw (ne_eqb short 9 p, ne_eqb short 10 q) (by (eqb short 5))
  where
    by : (t : Bool) → cond t (numbers true) (numbers false) ≡ numbers t
    by true = refl
    by false = refl

-- the rows of the bytes that describe a tone, give a rest or give a high noise, short or a twin's
module _ (code : ℕ) where
  pub tone-row : ToneCode code → tone_row code ≡ row_of code
  tone-row = ⊎_elim (⊎_elim (of 4 refl refl) (of 5 refl refl)) (⊎_elim (of 9 refl refl) (of 10 refl refl))
    where
      of : (short : ℕ) → tone_row short ≡ row_of short → tone_row (short + twin) ≡ row_of (short + twin) → short_of code ≡ short → tone_row code ≡ row_of code
      of short one two e = ⊎_elim (λ f. rw f one) (λ f. rw f two) (one-of-both code short e)

  pub rest-row : RestCode code → rest_row code ≡ row_of code
  rest-row e = ⊎_elim (λ f. rw f) (λ f. rw f) (one-of-both code 11 e)

  pub high-row : HighCode code → high_row code ≡ row_of code
  high-row e = ⊎_elim (λ f. rw f) (λ f. rw f) (one-of-both code 12 e)

-- 7, and every byte that is none of the other commands', is taken for the end
module _ (code : ℕ) (no-tone : ToneCode code → ⊥) (no_rest : RestCode code → ⊥) (no_high : HighCode code → ⊥) where
  pub end_row : (code ≡ 1 → ⊥) → (code ≡ 2 → ⊥) → (code ≡ 3 → ⊥) → (code ≡ 6 → ⊥) → (code ≡ 8 → ⊥) → row_of code ≡ end
  end_row p1 p2 p3 p6 p8 =
      rw (
        ne_eqb code 1 p1,
        ne_eqb code 2 p2,
        ne_eqb code 8 p8,
        ne_eqb code 3 p3,
        ne_eqb code 4 (λ e. no-tone (inl (inl (ap short_of e)))),
        ne_eqb code 5 (λ e. no-tone (inl (inr (ap short_of e)))),
        ne_eqb code 6 p6,
        ne_eqb code 9 (λ e. no-tone (inr (inl (ap short_of e)))),
        ne_eqb code 10 (λ e. no-tone (inr (inr (ap short_of e)))),
        ne_eqb code 11 (λ e. no_rest (ap short_of e)),
        ne_eqb code 20 (λ e. no-tone (inl (inl (ap short_of e)))),
        ne_eqb code 21 (λ e. no-tone (inl (inr (ap short_of e)))),
        ne_eqb code 25 (λ e. no-tone (inr (inl (ap short_of e)))),
        ne_eqb code 26 (λ e. no-tone (inr (inr (ap short_of e)))),
        ne_eqb code 27 (λ e. no_rest (ap short_of e)),
        ne_eqb code 12 (λ e. no_high (ap short_of e)),
        ne_eqb code 28 (λ e. no_high (ap short_of e)),
      )
      (either (eqb code 7))
    where
      either : (t : Bool) → or_end (cond t (some end) none) ≡ end
      either true = refl
      either false = refl
