-- Sheets read and tidied by computation: document 01's sample, one whose tones fall and whose silences stand apart, rests, high noises,
-- and a gap of 10 dB in either unit.
-- Assumes nothing.
use mathlib.Core.Path.{◌≡◌, refl}
use mathlib.Core.List.{List, [], ◌∷◌, ◌++◌}
use Prim.Native.Nat.{ℕ}
use native.Mathlib.Omega.{arith}
use Rattle.lists.specs.Joined.{joined_below}
use Rattle.bigendian.specs.Number.{number, bytes, number_at}
use Rattle.silence.specs.Map.{names_beyond, some}
use Rattle.steps.specs.Tones.{sum}
use Rattle.gaps.specs.declared.Gap.TheVariants.{Parts, Tenths}
use Rattle.gaps.proofs.Rule.{right, right_is}
use Rattle.line.specs.Tone.{kind_cost}
use Rattle.line.specs.Line.{Line, tones}
use Rattle.line.proofs.Alike.{with_gap, units-differ, loads-alike}
use Rattle.refusals.specs.declared.Refusal.TheVariants.{OperandOutOfRange, ToneCannotTake, RestsOverBudget}
use Rattle.rows.specs.Rows.{row_at}
use Rattle.command.specs.Format.{decoded}
use Rattle.sheet.specs.Reading.{Meaning, accepted, refused, empty_line, read_from, reading_in, reading}
use Rattle.tidyform.specs.Tidy.{gap_bytes, head_bytes, tidy}

-- the line that a sheet means
abbrev line_of : Meaning → Line
line_of (accepted l) = l
line_of (refused r) = empty_line

-- the tidy form of what a sheet means
abbrev tidied : Meaning → List ℕ
tidied (accepted l) = tidy l
tidied (refused r) = []

-- The commands of the sheets: the budget; a tone of cost 3, one of 5 and one of 1, at a gap of 1; a rest; a high noise; a silence of the
-- first word; the end.
abbrev budget_of : (budget : ℕ) → List ℕ
budget_of budget = 3 ∷ 0 ∷ 0 ∷ 0 ∷ 0 ∷ 0 ∷ 0 ∷ 0 ∷ budget ∷ []

abbrev tone0 : List ℕ
tone0 = 4 ∷ 0 ∷ 0 ∷ 3 ∷ 0 ∷ 1 ∷ 15 ∷ 0 ∷ 0 ∷ 0 ∷ 0 ∷ 0 ∷ 0 ∷ 0 ∷ 100 ∷ []

abbrev tone1 : List ℕ
tone1 = 4 ∷ 1 ∷ 0 ∷ 5 ∷ 0 ∷ 1 ∷ 2 ∷ 0 ∷ 0 ∷ 0 ∷ 0 ∷ 0 ∷ 0 ∷ 0 ∷ 100 ∷ []

abbrev tone2 : List ℕ
tone2 = 5 ∷ 2 ∷ 0 ∷ 1 ∷ 0 ∷ 1 ∷ 7 ∷ 0 ∷ 0 ∷ 0 ∷ 0 ∷ 0 ∷ 0 ∷ 0 ∷ 100 ∷ []

abbrev rest_of : (tone rest : ℕ) → List ℕ
rest_of tone rest = 0x0b ∷ tone ∷ 0 ∷ 0 ∷ 0 ∷ rest ∷ []

abbrev high_of : (tone high : ℕ) → List ℕ
high_of tone high = 0x0c ∷ tone ∷ 0 ∷ high ∷ []

abbrev silence_of : (map : ℕ) → List ℕ
silence_of map = 6 ∷ 0 ∷ 0 ∷ 0 ∷ 0 ∷ map ∷ []

abbrev ending : List ℕ
ending = 7 ∷ []

-- three tones, a gap of 1 and a budget
abbrev begin : (budget : ℕ) → List ℕ
begin budget = 1 ∷ 0 ∷ 3 ∷ 2 ∷ 1 ∷ 0 ∷ budget_of budget

-- from the budget on, with all three tones
abbrev from_budget : List ℕ
from_budget = budget_of 39 ++ tone0 ++ tone1 ++ tone2 ++ ending

abbrev sample : List ℕ
sample = 1 ∷ 0 ∷ 3 ∷ 2 ∷ 1 ∷ 0 ∷ from_budget

sample-tidy : tidied (reading sample) ≡ sample
unfolding number bytes number_at names_beyond some row_at decoded read_from reading_in sum joined_below gap_bytes head_bytes tidy
sample-tidy = refl

-- tones rise, a silenced tone stays described, and maps of one word are joined
untidy-tidy : tidied (reading (begin 39 ++ silence_of 2 ++ tone2 ++ tone1 ++ silence_of 1 ++ ending)) ≡ begin 39 ++ tone1 ++ tone2 ++ silence_of 3 ++ ending
unfolding number bytes number_at names_beyond some row_at decoded read_from reading_in sum joined_below gap_bytes head_bytes tidy
untidy-tidy = refl

-- ---- rests

-- W6: 'Tidying puts 0B straight after its tone and drops one whose rest is 0'; a silenced tone keeps its rest
rests-tidy : tidied (reading (begin 39 ++ tone2 ++ rest_of 2 0 ++ tone1 ++ tone0 ++ rest_of 1 4 ++ silence_of 2 ++ ending))
    ≡ begin 39 ++ tone0 ++ tone1 ++ rest_of 1 4 ++ tone2 ++ silence_of 2 ++ ending
unfolding number bytes number_at names_beyond some kind_cost row_at decoded read_from reading_in sum joined_below gap_bytes head_bytes tidy
rests-tidy = refl

-- 14, at the tone: a rest before its tone's command, and one after a rest of 0
rest-too-early : reading (begin 39 ++ rest_of 1 4 ++ tone1 ++ ending) ≡ refused (ToneCannotTake 16)
unfolding number number_at row_at decoded read_from reading_in
rest-too-early = refl

rest-given-twice : reading (begin 39 ++ tone1 ++ rest_of 1 0 ++ rest_of 1 4 ++ ending) ≡ refused (ToneCannotTake 37)
unfolding number number_at kind_cost row_at decoded read_from reading_in
rest-given-twice = refl

-- 16: a rest above the budget; a silence after it saves the sheet
rests-over : reading (begin 3 ++ tone1 ++ rest_of 1 4 ++ ending) ≡ refused RestsOverBudget
unfolding number number_at kind_cost row_at decoded read_from reading_in sum
rests-over = refl

abbrev saved : List ℕ
saved = begin 3 ++ tone1 ++ rest_of 1 4 ++ silence_of 2 ++ ending

rest-silenced : tidied (reading saved) ≡ saved
unfolding number bytes number_at names_beyond some kind_cost row_at decoded read_from reading_in sum joined_below gap_bytes head_bytes tidy
rest-silenced = refl

-- ---- high noises

-- W9: 'Tidying puts it after the tone's rest, and drops it where it equals the noise'; tone 1's noise is 5, tone 2's is 1
highs-tidy : tidied (reading (begin 39 ++ tone2 ++ high_of 2 1 ++ tone1 ++ high_of 1 9 ++ rest_of 1 4 ++ tone0 ++ ending))
    ≡ begin 39 ++ tone0 ++ tone1 ++ rest_of 1 4 ++ high_of 1 9 ++ tone2 ++ ending
unfolding number bytes number_at names_beyond some kind_cost row_at decoded read_from reading_in sum joined_below gap_bytes head_bytes tidy
highs-tidy = refl

-- 14, at the tone: one after another of the noise itself
high-given-twice : reading (begin 39 ++ tone1 ++ high_of 1 5 ++ high_of 1 9 ++ ending) ≡ refused (ToneCannotTake 35)
unfolding number number_at kind_cost row_at decoded read_from reading_in
high-given-twice = refl

-- 4, at the high noise: one below the noise
high-too-low : reading (begin 39 ++ tone1 ++ high_of 1 4 ++ ending) ≡ refused (OperandOutOfRange 32)
unfolding number number_at kind_cost row_at decoded read_from reading_in
high-too-low = refl

-- ---- 10 dB in parts of 256 and in tenths of a decibel

abbrev in_parts : List ℕ
in_parts = 1 ∷ 0 ∷ 3 ∷ 2 ∷ 0x0a ∷ 0x00 ∷ from_budget

abbrev in_tenths : List ℕ
in_tenths = 1 ∷ 0 ∷ 3 ∷ 8 ∷ 100 ∷ from_budget

-- W1: 'The tidy form keeps whichever command the sheet had'
tenths-tidy : tidied (reading in_tenths) ≡ in_tenths
unfolding number bytes number_at names_beyond some row_at decoded read_from reading_in sum joined_below gap_bytes head_bytes tidy
tenths-tidy = refl

-- two sheets mean different lines that load alike
pub record LoadAlike (s t : List ℕ) : Type 0 where
  pub line : Line
  pub other : Line
  pub means_line : reading s ≡ accepted line
  pub means_other : reading t ≡ accepted other
  pub different : line ≡ other → ⊥
  pub same_budget : line.budget ≡ other.budget
  pub alike : tones line ≡ tones other

-- the sample's line, whose gap is another
abbrev sample_line : Line
sample_line = line_of (reading sample)

pub ten-decibels : LoadAlike in_parts in_tenths
unfolding number bytes number_at names_beyond some row_at decoded read_from reading_in sum right
ten-decibels = record {
  line = with_gap sample_line (Parts 2560);
  other = with_gap sample_line (Tenths 100);
  means_line = refl;
  means_other = refl;
  different = units-differ sample_line sample_line 2560 100;
  same_budget = refl;
  alike = loads-alike sample_line (Parts 2560) (Tenths 100) (right_is 100 2560 tt (omega arith));
}
