-- The rows of a sheet's commands by their command bytes, as the code finds them, and what it knows of a tone by its places.
-- Assumes nothing.
use Rattle.std.specs.Prelude.{true, false, cond, List, ◌++◌, ◌⊎◌, ◌≡◌, ℕ, ◌+◌, ltb, eqb}
use Rattle.std.proofs.Math.Option.{Option, none, some}
use Rattle.sizes.specs.Sizes.{most_tones, most_words}
use Rattle.addresses.specs.Addresses.{number_width, short_of}
use Rattle.places.specs.declared.Noted.{Noted}
use Rattle.places.specs.Places.{entry_at}
use Rattle.rows.specs.Rows.{Operand, Known, Row, size, describing, numbers, level_operands, ratio_operands, rest, high, silence, end, rows_of, with_code, width}

-- what is known of the tone whose command stands at a place, and whose rest's and high noise's at two others; 0 for none
abbrev pub known_at : List ℕ → (place rest high : ℕ) → Known
known_at s place rest high = record { entry = entry_at s place rest high; rested = ltb 0 rest; widened = ltb 0 high }

abbrev pub known_noted : List ℕ → Noted → Known
known_noted s n = known_at s n.own n.rest n.high

abbrev pub size_row : Row
size_row = size most_tones

abbrev pub silence_row : Row
silence_row = silence most_words

-- the operands after the tone's number, by the byte of a short command that describes a tone; every other byte has a pair tone's
abbrev pub tone_operands : (short : ℕ) → List Operand
tone_operands short = cond (eqb short 0x05) (numbers true) (cond (eqb short 0x09) level_operands (cond (eqb short 0x0a) ratio_operands (numbers false)))

-- the rows of a byte that describes a tone, and of one that gives a rest or a high noise, short or a twin's
abbrev pub tone_row : (code : ℕ) → Row
tone_row code = describing (number_width code) (short_of code) (tone_operands (short_of code))

abbrev pub rest_row : (code : ℕ) → Row
rest_row code = rest (number_width code)

abbrev pub high_row : (code : ℕ) → Row
high_row code = high (number_width code)

-- a byte that describes a tone, by the short command's
abbrev pub ShortToneCode : (short : ℕ) → Type 0
ShortToneCode short = ((short ≡ 0x04) ⊎ (short ≡ 0x05)) ⊎ ((short ≡ 0x09) ⊎ (short ≡ 0x0a))

abbrev pub ToneCode : (code : ℕ) → Type 0
ToneCode code = ShortToneCode (short_of code)

-- a byte that gives a rest, and one that gives a high noise
abbrev pub RestCode : (code : ℕ) → Type 0
RestCode code = short_of code ≡ 0x0b

abbrev pub HighCode : (code : ℕ) → Type 0
HighCode code = short_of code ≡ 0x0c

-- the rows of a stage, and of every stage
abbrev pub rows_in : (stage : ℕ) → List Row
rows_in = rows_of most_tones most_words

abbrev pub all_rows : List Row
all_rows = rows_in 0 ++ (rows_in 1 ++ (rows_in 2 ++ rows_in 3))

abbrev pub or_end : Option Row → Row
or_end none = end
or_end (some r) = r

-- the row of a command byte, whatever is allowed; every other byte is taken for the end
abbrev pub row_of : (code : ℕ) → Row
row_of code = or_end (with_code all_rows code)

-- how many bytes its command has in all
abbrev pub command_bytes : (code : ℕ) → ℕ
command_bytes code = 1 + width (row_of code).operands
