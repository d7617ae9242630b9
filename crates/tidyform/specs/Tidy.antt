-- The tidy form of a line. Document 01, 'The line sheet'; document 02, W1, W5, W6, W8 and W9.
-- Assumes nothing.
use Rattle.std.specs.Prelude.{cond, List, [], ◌∷◌, ◌++◌, ℕ, ltb, eqb, get_or}
use Rattle.std.specs.Float.{binary32}
use Rattle.std.specs.Float.Ieee.{to_bits}
use Rattle.sizes.specs.Sizes.{words_of}
use Rattle.lists.specs.Joined.{joined_below}
use Rattle.bigendian.specs.Number.{byte_base, bytes}
use Rattle.gaps.specs.declared.Gap.{Gap}
use Rattle.gaps.specs.declared.Gap.TheVariants.{Parts, Tenths}
use Rattle.readings.specs.declared.Reading.{Reading}
use Rattle.readings.specs.declared.Reading.TheVariants.{Both, Ratio}
use Rattle.line.specs.declared.Kind.{Kind}
use Rattle.line.specs.declared.Kind.TheVariants.{Pair, Single, Read}
use Rattle.line.specs.declared.Tone.{Tone}
use Rattle.line.specs.Tone.{noise_of}
use Rattle.line.specs.Line.{Entry, undescribed, described, Line}
use Rattle.rows.specs.declared.Header.{Header}
use Rattle.rows.specs.Rows.{Row, Operand, gap, tenths, budget, pair, single, levels, ratio, rest, high, end}
use Rattle.rows.specs.Codes.{size_row, silence_row}
use Rattle.sheet.specs.Reading.{header_of}

-- A command as bytes: its own, then its operands' values, each in its width.
abbrev pub operand_bytes : List Operand → (values : List ℕ) → List ℕ
operand_bytes [] values = []
operand_bytes (o ∷ os) [] = []
operand_bytes (o ∷ os) (v ∷ vs) = bytes o.width v ++ operand_bytes os vs

abbrev pub written : Row → (values : List ℕ) → List ℕ
written r values = r.code ∷ operand_bytes r.operands values

-- W8: 'Tidying uses the short command for tones up to 255', which one byte numbers: the bytes of tone i's number
abbrev pub tidy_width : (i : ℕ) → ℕ
tidy_width i = cond (ltb i byte_base) 1 2

-- W5: 'Tidying keeps the float bits'; noise and gain, or their ratio
abbrev pub reading_row : (width : ℕ) → Reading → Row
reading_row width (Both l) = levels width
reading_row width (Ratio x) = ratio width

abbrev pub reading_bits : Reading → List ℕ
reading_bits (Both l) = to_bits binary32 l.noise ∷ to_bits binary32 l.gain ∷ []
reading_bits (Ratio x) = to_bits binary32 x ∷ []

-- the command that describes a tone of a kind, and what it carries after the tone's number
abbrev pub kind_row : (width : ℕ) → Kind → Row
kind_row width (Pair n) = pair width
kind_row width (Single n) = single width
kind_row width (Read n) = reading_row width n.reading

abbrev pub kind_values : Kind → List ℕ
kind_values (Pair n) = n.noise ∷ n.gain ∷ n.cap ∷ n.mask ∷ []
kind_values (Single n) = n.noise ∷ n.gain ∷ n.cap ∷ n.mask ∷ []
kind_values (Read n) = reading_bits n.reading ++ (n.cap ∷ n.mask ∷ [])

-- W6: 'Tidying puts 0B straight after its tone and drops one whose rest is 0.'
abbrev pub rest_bytes : (i rest : ℕ) → List ℕ
rest_bytes i r = cond (eqb r 0) [] (written (rest (tidy_width i)) (i ∷ r ∷ []))

-- W9: 'Tidying puts it after the tone's rest, and drops it where it equals the noise.'
abbrev pub high_bytes : (i : ℕ) → Tone → (high : ℕ) → List ℕ
high_bytes i t h = cond (eqb h (noise_of t.kind)) [] (written (high (tidy_width i)) (i ∷ h ∷ []))

-- 'the described tones in rising number'; a silenced tone stays described
abbrev pub entry_bytes : (i : ℕ) → Entry → List ℕ
entry_bytes i undescribed = []
entry_bytes i (described t a) = written (kind_row (tidy_width i) t.kind) (i ∷ kind_values t.kind) ++ (rest_bytes i a.rest ++ high_bytes i t a.high)

abbrev pub tone_bytes_at : List Entry → (i : ℕ) → List ℕ
tone_bytes_at entries i = entry_bytes i (get_or entries i undescribed)

abbrev pub tone_bytes : (count : ℕ) → List Entry → List ℕ
tone_bytes count entries = joined_below (tone_bytes_at entries) count

-- 'for each word in rising order one 06 if its joined map is not zero'
abbrev pub word_bytes : (word map : ℕ) → List ℕ
word_bytes word map = cond (eqb map 0) [] (written silence_row (word ∷ map ∷ []))

abbrev pub word_bytes_at : (maps : List ℕ) → (word : ℕ) → List ℕ
word_bytes_at maps word = word_bytes word (get_or maps word 0)

abbrev pub map_bytes : (count : ℕ) → (maps : List ℕ) → List ℕ
map_bytes count maps = joined_below (word_bytes_at maps) count

-- W1: 'The tidy form keeps whichever command the sheet had.'
unfoldable pub gap_bytes : Gap → List ℕ
gap_bytes (Parts g) = written gap (g ∷ [])
gap_bytes (Tenths d) = written tenths (d ∷ [])

-- '01, 02, 03', with 08 in the place of 02 where the sheet had it
unfoldable pub head_bytes : Header → List ℕ
unfolding gap_bytes
head_bytes h = written size_row (h.size ∷ []) ++ gap_bytes h.gap ++ written budget (h.budget ∷ [])

-- 'The tidy form has 01, 02, 03, the described tones in rising number, then for each word .., then 07.'
unfoldable pub tidy : Line → List ℕ
unfolding head_bytes
tidy l = head_bytes (header_of l) ++ tone_bytes l.size l.entries ++ map_bytes (words_of l.size) l.maps ++ written end []
