-- What a format allows, and the command at a place of a sheet. Document 01, 'The line sheet' and 'Why a sheet is turned down'; document 02,
-- W1, W5, W6, W8 and W9.
-- Assumes nothing.
use Rattle.std.specs.Prelude.{Bool, true, false, cond, List, ◌++◌, ◌≡◌, ℕ, ◌≤◌, leb, ltb, length, get_or, is_ok, Err}
use Rattle.std.proofs.Math.Option.{Option, none, some}
use Rattle.sizes.specs.Sizes.{most_tones, most_words, words_of, longest_sheet}
use Rattle.bigendian.specs.Number.{byte_base}
use Rattle.refusals.specs.declared.Refusal.TheVariants.{SheetTooLong, SheetEnds, CommandNotAllowed}
use Rattle.rows.specs.declared.Header.{Header}
use Rattle.rows.specs.declared.Decoded.{Decoded}
use Rattle.rows.specs.Rows.{Known, Row, width, first_rows, tenths_rows, reading_rows, rest_rows, rows_to_twins, rows_of, with_code, row_at, whole_row}

-- The most tones, the silence words, the longest sheet, and the commands allowed after so many of the first three.
pub record Format : Type 0 where
  pub tones : ℕ
  pub words : ℕ
  pub bytes : ℕ
  pub rows : (stage : ℕ) → List Row

-- the commands of document 01 and of the requests, with so many tones, words and bytes
abbrev pub format_of : (tones words bytes : ℕ) → Format
format_of tones words bytes = record { tones = tones; words = words; bytes = bytes; rows = rows_of tones words }

-- document 01's sizes: 'N tones, 1 to 256', as many as a byte can number; 'word 1 (0 to 7)', the words that those take; 'at most 4,096 bytes'
abbrev pub document01_tones : ℕ
document01_tones = byte_base

abbrev pub document01_words : ℕ
document01_words = words_of document01_tones

abbrev pub document01_bytes : ℕ
document01_bytes = 4096

-- commands with those sizes
abbrev pub small_format : ((tones words stage : ℕ) → List Row) → Format
small_format rows = record { tones = document01_tones; words = document01_words; bytes = document01_bytes; rows = rows document01_tones document01_words }

-- document 01's own format, with none of the requests' commands
abbrev pub document01 : Format
document01 = small_format first_rows

-- the one before W5, with the gap in tenths
abbrev pub with_tenths : Format
with_tenths = small_format (λ tones words stage. first_rows tones words stage ++ tenths_rows stage)

-- the one before W6, with readings of the line analyser
abbrev pub with_readings : Format
with_readings = small_format (λ tones words stage. (first_rows tones words stage ++ tenths_rows stage) ++ reading_rows stage)

-- the one before W8, with rests
abbrev pub with_rests : Format
with_rests = small_format (λ tones words stage. ((first_rows tones words stage ++ tenths_rows stage) ++ reading_rows stage) ++ rest_rows stage)

-- with the twins as well, at document 01's sizes
abbrev pub with_twins : Format
with_twins = small_format rows_to_twins

-- the one before W9, with the twins and W8's sizes
abbrev pub with_sizes : Format
with_sizes = record { tones = most_tones; words = most_words; bytes = longest_sheet; rows = rows_to_twins most_tones most_words }

-- the format that is read
abbrev pub today : Format
today = format_of most_tones most_words longest_sheet

-- whether a command byte has found a row
abbrev pub is_row : Option Row → Bool
is_row none = false
is_row (some r) = true

-- refusal 1: 'The sheet has more than 4,096 bytes'; W8: 'A sheet may be 32,768 bytes, which amends refusal 1'
abbrev pub is_too_long : Format → List ℕ → Bool
is_too_long F s = ltb F.bytes (length s)

-- The command at a place of a sheet: refusal 2 where the sheet ends there, 3 where its byte is not allowed; else as its row has it. With it
-- comes the place after the command.
abbrev pub decoded_row : Header → (known : Known) → List ℕ → (at : ℕ) → Option Row → Decoded
decoded_row h known s at none = record { command = Err (CommandNotAllowed at); next = at }
decoded_row h known s at (some r) = whole_row h known s at r

unfoldable pub decoded : Format → Header → (known : Known) → List ℕ → (at stage : ℕ) → Decoded
unfolding row_at
decoded F h known s at stage =
    cond (leb (length s) at) (record { command = Err (SheetEnds (length s)); next = at })
    (decoded_row h known s at (with_code (F.rows stage) (get_or s at 0)))

-- The command at a place of any bytes: of a sheet that is too long no command is read.
unfoldable pub command_at : Format → Header → (known : Known) → List ℕ → (at stage : ℕ) → Decoded
unfolding decoded
command_at F h known s at stage =
    cond (is_too_long F s) (record { command = Err SheetTooLong; next = at }) (decoded F h known s at stage)

-- ---- one format within another

-- A row covers another: wherever that one takes a command, this one takes as many bytes and does the same.
pub record Covers (r' r : Row) : Type 0 where
  pub same_width : width r'.operands ≡ width r.operands
  pub same_effect : (h : Header) (known : Known) (s : List ℕ) (at : ℕ) → is_ok (row_at h known s at r) ≡ true → row_at h known s at r' ≡ row_at h known s at r

-- what a row that a format finds for a command byte needs of a larger one
abbrev pub Covered : Option Row → Option Row → Type 0
Covered none o = Unit {0}
Covered (some r) none = ⊥
Covered (some r) (some r') = Covers r' r

-- A format is within another: its sheets are no longer, and each of its commands is covered.
pub record Within (F G : Format) : Type 0 where
  pub no_longer : F.bytes ≤ G.bytes
  pub covered : (stage code : ℕ) → Covered (with_code (F.rows stage) code) (with_code (G.rows stage) code)
