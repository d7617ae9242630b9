-- The commands of a sheet, one row for each. Document 01, 'The line sheet' and 'Why a sheet is turned down'; document 02, W1, W5, W6,
-- W8 and W9.
-- Assumes nothing.
use Rattle.std.specs.Prelude.{Bool, true, false, not, ◌&&◌, cond, List, [], ◌∷◌, ◌++◌, ℕ, zero, suc, ◌+◌, ◌-◌, leb, ltb, eqb, length, get_or, Result, Ok, Err}
use Rattle.std.proofs.Math.Option.{Option, none, some}
use Rattle.sizes.specs.Sizes.{pair_cap, most_power}
use Rattle.bigendian.specs.Number.{number}
use Rattle.silence.specs.Map.{names_beyond}
use Rattle.gaps.specs.declared.Gap.TheVariants.{Parts, Tenths}
use Rattle.gaps.specs.Gap.{gap_unit, most_gap, most_tenths, parts}
use Rattle.readings.specs.declared.Reading.{Reading}
use Rattle.readings.specs.declared.Reading.TheVariants.{Both, Ratio}
use Rattle.readings.specs.Reading.{is_usable, float_of, is_over}
use Rattle.line.specs.Tone.{most_cap, is_rest}
use Rattle.line.specs.Line.{Entry, undescribed, described, is_described}
use Rattle.noises.specs.Noises.{entry_has_noise, entry_low}
use Rattle.addresses.specs.Addresses.{code_of}
use Rattle.refusals.specs.declared.Refusal.{Refusal}
use Rattle.refusals.specs.declared.Refusal.TheVariants.{SheetEnds, OperandOutOfRange, ToneBeyondLine, ToneRepeated, FloatOutOfRange, CostOutOfRange, ToneCannotTake, RestOutOfRange}
use Rattle.rows.specs.declared.Header.{Header}
use Rattle.rows.specs.declared.Command.{Command}
use Rattle.rows.specs.declared.Command.TheVariants.{End, Head, Describe, Rest, High, Silence}
use Rattle.rows.specs.declared.Decoded.{Decoded}

-- What the reading knows of a tone: its entry so far, and whether it has had a 0B, 'even of rest 0', and a 0C, even of an equal noise, which
-- are no part of the line.
pub record Known : Type 0 where
  pub entry : Entry
  pub rested : Bool
  pub widened : Bool

-- What judging an operand looks at besides its value: the header so far, what is known of the tone that the command addresses, and the
-- operands before it.
pub record Seen : Type 0 where
  pub header : Header
  pub known : Known
  pub before : List ℕ

-- An operand: its width in bytes, and the refusal that a value of it meets, if any, at the operand's first byte.
pub record Operand : Type 0 where
  pub width : ℕ
  pub judge : Seen → (value place : ℕ) → Option Refusal

-- refusal 4: 'An operand is outside its range.'
abbrev pub within : (width low high : ℕ) → Operand
within width low high = record {
  width = width;
  judge = λ seen v place. cond (ltb v low) (some (OperandOutOfRange place)) (cond (ltb high v) (some (OperandOutOfRange place)) none);
}

-- refusals 5 and then 6: 'A tone number is N or more', 'the tone is already described'
abbrev pub tone_number : (width : ℕ) → Operand
tone_number width = record {
  width = width;
  judge = λ seen v place. cond (leb seen.header.size v) (some (ToneBeyondLine place)) (cond (is_described seen.known.entry) (some (ToneRepeated place)) none);
}

-- W5, refusal 12: 'a float is not finite or not above zero, placed at that float and judged where range 4 would be'
abbrev pub float : Operand
float = record { width = 4; judge = λ seen v place. cond (is_usable v) none (some (FloatOutOfRange place)) }

-- W5, the last float of a command. Refusal 13: 'the quotient is infinite or the cost is over 16,776,705, placed at the first float and judged
-- straight after the last float of its command'. The first float stands so many bytes before it; the reading is that of the operands up to it.
abbrev pub last_float : (back : ℕ) → (reading : List ℕ → Reading) → Operand
last_float back reading = record {
  width = 4;
  judge = λ seen v place.
      cond (is_usable v)
      (cond (is_over (parts seen.header.gap) (reading (seen.before ++ (v ∷ [])))) (some (CostOutOfRange (place - back))) none)
      (some (FloatOutOfRange place));
}

-- W6, refusals 5 and then 14: 'the tone is in range but not yet described or has had a 0B already, even of rest 0, placed at the tone'. W9: 'A
-- tone undescribed or given twice is 14, as in W6'.
abbrev pub takes : Entry → (had : Bool) → Bool
takes e had = is_described e && not had

abbrev pub takes_rest : Known → Bool
takes_rest k = takes k.entry k.rested

abbrev pub takes_high : Known → Bool
takes_high k = takes k.entry k.widened

abbrev pub rested_tone : (width : ℕ) → Operand
rested_tone width = record {
  width = width;
  judge = λ seen v place. cond (leb seen.header.size v) (some (ToneBeyondLine place)) (cond (takes_rest seen.known) none (some (ToneCannotTake place)));
}

-- W6, refusal 15: 'the rest is not below the cost or is above the mask, placed at the rest', by the cost at the line's gap
abbrev pub is_rest_of : (g : ℕ) → Entry → (rest : ℕ) → Bool
is_rest_of g undescribed rest = false
is_rest_of g (described t a) rest = is_rest g t rest

abbrev pub rest_operand : Operand
rest_operand = record {
  width = 4;
  judge = λ seen v place. cond (is_rest_of (parts seen.header.gap) seen.known.entry v) none (some (RestOutOfRange place));
}

-- W9: then 'a tone of another command is 4 at the tone'
abbrev pub widened_tone : (width : ℕ) → Operand
widened_tone width = record {
  width = width;
  judge = λ seen v place.
      cond (leb seen.header.size v) (some (ToneBeyondLine place))
      (cond (takes_high seen.known) (cond (entry_has_noise seen.known.entry) none (some (OperandOutOfRange place))) (some (ToneCannotTake place)));
}

-- W9: 'then a high noise below the noise is 4 at that operand'
abbrev pub high_operand : Operand
high_operand = record { width = 2; judge = λ seen v place. cond (ltb v (entry_low seen.known.entry)) (some (OperandOutOfRange place)) none }

-- refusal 5: 'a map names such a tone'; the word stands before it
abbrev pub map : Operand
map = record {
  width = 4;
  judge = λ seen v place. cond (names_beyond seen.header.size (get_or seen.before 0 0) v) (some (ToneBeyondLine place)) none;
}

-- W5, 'either as noise and gain or as their ratio': the reading of operands whose first is the tone
abbrev pub levels_of : List ℕ → Reading
levels_of v = Both (record { noise = float_of (get_or v 1 0); gain = float_of (get_or v 2 0) })

abbrev pub ratio_of : List ℕ → Reading
ratio_of v = Ratio (float_of (get_or v 1 0))

-- A command: its byte, its operands, and what it does, of the header so far and their values.
pub record Row : Type 0 where
  pub code : ℕ
  pub operands : List Operand
  pub does : Header → List ℕ → Command

-- 01 size, 02 gap and 03 budget each make a new header. The most tones are the format's.
abbrev pub size : (most : ℕ) → Row
size most = record {
  code = 0x01;
  operands = within 2 1 most ∷ [];
  does = λ h v. Head (record { size = get_or v 0 0; gap = h.gap; budget = h.budget });
}

abbrev pub gap : Row
gap = record {
  code = 0x02;
  operands = within 2 gap_unit most_gap ∷ [];
  does = λ h v. Head (record { size = h.size; gap = Parts (get_or v 0 0); budget = h.budget });
}

abbrev pub budget : Row
budget = record {
  code = 0x03;
  operands = within 8 0 most_power ∷ [];
  does = λ h v. Head (record { size = h.size; gap = h.gap; budget = get_or v 0 0 });
}

-- W1, 08: 'Command 08 (hex), with one operand byte d from 0 to 240'
abbrev pub tenths : Row
tenths = record {
  code = 0x08;
  operands = within 1 0 most_tenths ∷ [];
  does = λ h v. Head (record { size = h.size; gap = Tenths (get_or v 0 0); budget = h.budget });
}

-- the last operands of a tone: 'cap 1, mask 8'
abbrev pub cap_and_mask : (most : ℕ) → List Operand
cap_and_mask most = within 1 0 most ∷ within 8 0 most_power ∷ []

-- A command that describes a tone: the tone's number, then what the tone carries. W8: with a tone number of two bytes it is the twin, 'its
-- other operands alike'; so it is of each command below that addresses a tone.
abbrev pub describing : (width short : ℕ) → List Operand → Row
describing width short carried = record { code = code_of width short; operands = tone_number width ∷ carried; does = λ h v. Describe (get_or v 0 0) }

-- 04 pair tone and 05 single tone: 'tone 1, noise 2, gain 2, cap 1, mask 8'
abbrev pub numbers : (single : Bool) → List Operand
numbers is_single = within 2 1 65535 ∷ within 2 1 65535 ∷ cap_and_mask (most_cap is_single)

abbrev pub pair : (width : ℕ) → Row
pair width = describing width 0x04 (numbers false)

abbrev pub single : (width : ℕ) → Row
single width = describing width 0x05 (numbers true)

-- W5: 'Command 09 carries tone, noise float, gain float, cap, mask; 0A carries tone, ratio float, cap, mask.'
abbrev pub level_operands : List Operand
level_operands = float ∷ last_float 4 levels_of ∷ cap_and_mask pair_cap

abbrev pub ratio_operands : List Operand
ratio_operands = last_float 0 ratio_of ∷ cap_and_mask pair_cap

abbrev pub levels : (width : ℕ) → Row
levels width = describing width 0x09 level_operands

abbrev pub ratio : (width : ℕ) → Row
ratio width = describing width 0x0a ratio_operands

-- W6: 'Command 0B gives tone and rest, 4 bytes'
abbrev pub rest : (width : ℕ) → Row
rest width = record { code = code_of width 0x0b; operands = rested_tone width ∷ rest_operand ∷ []; does = λ h v. Rest (get_or v 0 0) }

-- W9: 'Command 0C (twin 1C) gives tone and high noise, 2 bytes'
abbrev pub high : (width : ℕ) → Row
high width = record { code = code_of width 0x0c; operands = widened_tone width ∷ high_operand ∷ []; does = λ h v. High (get_or v 0 0) }

-- 06 silence: 'word 1, map 4'. The words, from 0 on, are the format's.
abbrev pub silence : (words : ℕ) → Row
silence words = record { code = 0x06; operands = within 1 0 (words - 1) ∷ map ∷ []; does = λ h v. Silence (get_or v 0 0) (get_or v 1 0) }

-- 07 end
abbrev pub end : Row
end = record { code = 0x07; operands = []; does = λ h v. End }

-- '01, 02, 03 come first, each once, in that order; then any number of 04, 05, 06; then 07.'
-- The commands allowed after so many of the first three, with so many tones and words at most.
abbrev pub first_rows : (tones words stage : ℕ) → List Row
first_rows tones words zero = size tones ∷ []
first_rows tones words (suc zero) = gap ∷ []
first_rows tones words (suc (suc zero)) = budget ∷ []
first_rows tones words (suc (suc (suc n))) = pair 1 ∷ single 1 ∷ silence words ∷ end ∷ []

-- W1: 08 'may stand where 02 stands'
abbrev pub tenths_rows : (stage : ℕ) → List Row
tenths_rows zero = []
tenths_rows (suc zero) = tenths ∷ []
tenths_rows (suc (suc n)) = []

-- W5: 09 and 0A stand where 04 and 05 do
abbrev pub reading_rows : (stage : ℕ) → List Row
reading_rows zero = []
reading_rows (suc zero) = []
reading_rows (suc (suc zero)) = []
reading_rows (suc (suc (suc n))) = levels 1 ∷ ratio 1 ∷ []

-- W6: 0B stands 'after the tone's own command', which 14 judges
abbrev pub rest_rows : (stage : ℕ) → List Row
rest_rows zero = []
rest_rows (suc zero) = []
rest_rows (suc (suc zero)) = []
rest_rows (suc (suc (suc n))) = rest 1 ∷ []

-- W8: 'Each command with a tone byte gets a twin'
abbrev pub twin_rows : (stage : ℕ) → List Row
twin_rows zero = []
twin_rows (suc zero) = []
twin_rows (suc (suc zero)) = []
twin_rows (suc (suc (suc n))) = pair 2 ∷ single 2 ∷ levels 2 ∷ ratio 2 ∷ rest 2 ∷ []

-- W9: 0C and its twin stand 'anywhere after the tone', which 14 judges
abbrev pub high_rows : (stage : ℕ) → List Row
high_rows zero = []
high_rows (suc zero) = []
high_rows (suc (suc zero)) = []
high_rows (suc (suc (suc n))) = high 1 ∷ high 2 ∷ []

-- those of document 01 and of the requests, in the order in which they came: up to W8, and all
abbrev pub rows_to_twins : (tones words stage : ℕ) → List Row
rows_to_twins tones words stage = (((first_rows tones words stage ++ tenths_rows stage) ++ reading_rows stage) ++ rest_rows stage) ++ twin_rows stage

abbrev pub rows_of : (tones words stage : ℕ) → List Row
rows_of tones words stage = rows_to_twins tones words stage ++ high_rows stage

abbrev pub with_code : List Row → (code : ℕ) → Option Row
with_code [] code = none
with_code (r ∷ rs) code = cond (eqb code r.code) (some r) (with_code rs code)

-- the bytes of a command's operands
abbrev pub width : List Operand → ℕ
width [] = 0
width (o ∷ os) = o.width + width os

-- The operands left to right: the first refusal met, or what the command does of all their values.
abbrev pub judged : Option Refusal → Result Command Refusal → Result Command Refusal
judged (some r) c = Err r
judged none c = c

abbrev pub operands_from : Seen → List ℕ → (at : ℕ) → List Operand → (List ℕ → Command) → Result Command Refusal
operands_from seen s at [] does = Ok (does seen.before)
operands_from seen s at (o ∷ os) does =
    judged (o.judge seen (number s at o.width) at)
    (operands_from (record { header = seen.header; known = seen.known; before = seen.before ++ (number s at o.width ∷ []) }) s (at + o.width) os does)

-- what a command that describes a tone does from an operand on, of the values before it
abbrev pub describes_from : Header → (known : Known) → (values : List ℕ) → List ℕ → (at : ℕ) → List Operand → Result Command Refusal
describes_from h known values s at os = operands_from (record { header = h; known = known; before = values }) s at os (λ v. Describe (get_or v 0 0))

-- What the command of a row does at a place, all of whose bytes are there.
unfoldable pub row_at : Header → (known : Known) → List ℕ → (at : ℕ) → Row → Result Command Refusal
row_at h known s at r = operands_from (record { header = h; known = known; before = [] }) s (at + 1) r.operands (r.does h)

-- 'Within a command, 2 comes before any operand is judged': refusal 2 where the rest of a row's operands is missing, else what its command
-- does. With it comes the place after the command.
abbrev pub whole_row : Header → (known : Known) → List ℕ → (at : ℕ) → Row → Decoded
whole_row h known s at r =
    cond (ltb (length s) (at + 1 + width r.operands)) (record { command = Err (SheetEnds (length s)); next = at })
    (record { command = row_at h known s at r; next = at + 1 + width r.operands })
