-- The starred cases of document 01, 'Sample line', and figures and cases of document 02's requests, as rows of one list, and what each says of
-- the definitions.
-- Assumes nothing.
use Rattle.std.specs.Prelude.{true, false, ◌≡◌, List, [], ◌∷◌, ℕ, length, get_or}
use Rattle.std.proofs.Math.Option.{none, some}
use Rattle.steps.specs.Tones.{Tones, Table, powers, total_bits, total_power}
use Rattle.steps.specs.Runs.{Answer, moved, finished, refit_step, most_bits, refit_run, set_bits}
use Rattle.gaps.specs.declared.Gap.TheVariants.{Parts}
use Rattle.gaps.specs.Gap.{gap_of_tenths}
use Rattle.readings.specs.declared.Reading.{Reading}
use Rattle.readings.specs.declared.Reading.TheVariants.{Both, Ratio}
use Rattle.readings.specs.Reading.{float_of, is_over}
use Rattle.line.specs.declared.Kind.{Kind}
use Rattle.line.specs.declared.Kind.TheVariants.{Pair, Single, Read}
use Rattle.line.specs.declared.Numbers.{Numbers}
use Rattle.line.specs.declared.Tone.{Tone}
use Rattle.line.specs.declared.SetBy.{SetBy}
use Rattle.line.specs.declared.SetBy.TheVariants.{Cap, Mask}
use Rattle.line.specs.Tone.{cost, limit, set_by}
use Rattle.line.specs.Tries.{tries}
use Rattle.line.specs.Line.{none_added, Entry, described, with_rest, Line, tones, set_by_at}

abbrev pub tone : (Numbers → Kind) → (noise gain cap mask : ℕ) → Tone
tone kind noise gain cap mask = record { kind = kind (record { noise = noise; gain = gain; cap = cap; mask = mask }) }

-- W5, a tone of 09 and of 0A by the bits of their floats, and a tone that has a reading
abbrev pub levels : (noise gain : ℕ) → Reading
levels noise gain = Both (record { noise = float_of noise; gain = float_of gain })

abbrev pub ratio : (bits : ℕ) → Reading
ratio bits = Ratio (float_of bits)

abbrev pub read_tone : Reading → Tone
read_tone r = record { kind = Read (record { reading = r; cap = 0; mask = 0 }) }

-- a described tone with a rest
abbrev pub resting : Tone → (rest : ℕ) → Entry
resting t rest = with_rest rest (described t (none_added t))

-- 'Gap 256; tone 0 pair, noise 3, cap 15; tone 1 pair, noise 5, cap 2; tone 2 single, noise 1, cap 7; gains 1, masks 100.'
-- With the rests of its tones, by number.
abbrev pub sample : (rests : List ℕ) → (budget : ℕ) → Line
sample rests budget = record {
  size = 3;
  gap = Parts 256;
  budget = budget;
  entries =
      resting (tone Pair 3 1 15 100) (get_or rests 0 0)
      ∷ resting (tone Pair 5 1 2 100) (get_or rests 1 0)
      ∷ resting (tone Single 1 1 7 100) (get_or rests 2 0)
      ∷ [];
  maps = 0 ∷ [];
}

-- the same tones at every budget
abbrev pub sample_tones : (rests : List ℕ) → Tones
sample_tones rests = tones (sample rests 0)

abbrev pub no_rests : List ℕ
no_rests = []

-- W6, rests of 2 on tone 0 and 1 on tone 1. Powers from no bits up: 2, 3, 9, 21, 45, 93; 1, 5, 15; 0, 3, 15, 63. Steps: 1, 6, 12, 24, 48; 4, 10;
-- 3, 12, 48. No bits have power 3. At budget 3 the first step, 1, does not fit; at 4 it does. At 39: 3 + 1 + 3 + 4 + 6 + 10 + 12 = 39, and of the
-- two steps of 12 tone 0's comes first; the next is tone 2's 12, which does not fit. Re-fit at budget 3 of 1, 0, 0, of power 4: the earliest free
-- step is 3, the latest held 1, so that is given up; then 1 does not fit. Re-fit at 39 of 0, 2, 3, of power 2 + 15 + 63 = 80: 1 for 48, 6 for 12,
-- then 12 is taken, at 27.
abbrev pub some_rests : List ℕ
some_rests = 2 ∷ 1 ∷ []

pub data Case : Type 0 where
  -- the sample line with these rests, and budget: the loading for most bits, as bits and powers of each tone, total bits and total power
  most : (rests : List ℕ) → (budget : ℕ) → (bits power : List ℕ) → (all_bits all_power : ℕ) → Case
  -- rests, target and budget: the loading of a set number of bits, or refusal 11
  granted : (rests : List ℕ) → (target budget : ℕ) → (bits : List ℕ) → Case
  refused : (rests : List ℕ) → (target budget : ℕ) → Case
  -- target: refusal 11 at every budget, without rests
  never : (target : ℕ) → Case
  -- rests, budget and start: the tables that the re-fit moves through, one after each move
  refits : (rests : List ℕ) → (budget : ℕ) → (start : List ℕ) → (through : List (List ℕ)) → Case
  -- gap, noise, gain: the cost
  costs : (gap noise gain w : ℕ) → Case
  -- W5, gap and reading: the cost, which 13 does not refuse
  reading_costs : (gap : ℕ) → Reading → (w : ℕ) → Case
  -- W5, gap and reading: 13 refuses it
  over_costs : (gap : ℕ) → Reading → Case
  -- cost and mask: the limit of a pair tone
  limits : (w mask b : ℕ) → Case
  -- W3, cost, cap and mask: the limit of a pair tone, and what set it
  limits_by : (w cap mask b : ℕ) → SetBy → Case
  -- W3, a tone of the sample line: its limit, and what set it
  sample_limits : (i b : ℕ) → SetBy → Case
  -- W4, kind, cost, cap and mask: how many powers the search for the limit tries
  tried : (Numbers → Kind) → (w cap mask n : ℕ) → Case
  -- W1, tenths of a decibel: the gap
  tenths : (d g : ℕ) → Case

-- The rule's own steps from t: each answers 'moved' with the next table listed, and the last table is finished.
abbrev pub Through : (Table → Answer) → Table → List Table → Type 0
Through rule t [] = rule t ≡ finished
Through rule t (u ∷ us) = (rule t ≡ moved u) × Through rule u us

abbrev pub CaseHolds : Case → Type 0
CaseHolds (most rests budget bits power all_bits all_power) =
    (((most_bits (sample_tones rests) budget).table ≡ bits) × (powers (sample_tones rests) bits ≡ power))
    × ((total_bits (sample_tones rests) bits ≡ all_bits) × (total_power (sample_tones rests) bits ≡ all_power))
CaseHolds (granted rests target budget bits) = set_bits (sample_tones rests) budget target ≡ some bits
CaseHolds (refused rests target budget) = set_bits (sample_tones rests) budget target ≡ none
CaseHolds (never target) = (budget : ℕ) → set_bits (sample_tones no_rests) budget target ≡ none
CaseHolds (refits rests budget start through) =
    Through (refit_step (sample_tones rests) budget) start through × ((refit_run (sample_tones rests) budget start).moves ≡ length through)
CaseHolds (costs gap noise gain w) = cost gap (tone Pair noise gain 0 0) ≡ w
CaseHolds (reading_costs gap r w) = (is_over gap r ≡ false) × (cost gap (read_tone r) ≡ w)
CaseHolds (over_costs gap r) = is_over gap r ≡ true
CaseHolds (limits w mask b) = limit (tone Pair 1 1 15 mask) w ≡ b
CaseHolds (limits_by w cap mask b by) = (limit (tone Pair 1 1 cap mask) w ≡ b) × (set_by (tone Pair 1 1 cap mask) w ≡ by)
CaseHolds (sample_limits i b by) = ((sample_tones no_rests).limit i ≡ b) × (set_by_at (sample no_rests 0) i ≡ by)
CaseHolds (tried kind w cap mask n) = tries (tone kind 1 1 cap mask) w ≡ n
CaseHolds (tenths d g) = gap_of_tenths d ≡ g

unfoldable pub cases : List Case
cases =
    most no_rests 39 (3 ∷ 2 ∷ 1 ∷ []) (21 ∷ 15 ∷ 3 ∷ []) 6 39
    ∷ most no_rests 38 (2 ∷ 2 ∷ 1 ∷ []) (9 ∷ 15 ∷ 3 ∷ []) 5 27
    ∷ most no_rests 51 (3 ∷ 2 ∷ 2 ∷ []) (21 ∷ 15 ∷ 15 ∷ []) 7 51
    ∷ most no_rests 3 (1 ∷ 0 ∷ 0 ∷ []) (3 ∷ 0 ∷ 0 ∷ []) 1 3
    ∷ most no_rests 170 (5 ∷ 2 ∷ 2 ∷ []) (93 ∷ 15 ∷ 15 ∷ []) 9 123
    ∷ most no_rests 171 (5 ∷ 2 ∷ 3 ∷ []) (93 ∷ 15 ∷ 63 ∷ []) 10 171
    ∷ granted no_rests 6 39 (3 ∷ 2 ∷ 1 ∷ [])
    ∷ refused no_rests 6 38
    ∷ never 11
    ∷ refits no_rests 39 (0 ∷ 2 ∷ 3 ∷ []) ((1 ∷ 2 ∷ 2 ∷ []) ∷ (2 ∷ 2 ∷ 1 ∷ []) ∷ (3 ∷ 2 ∷ 1 ∷ []) ∷ [])
    ∷ most some_rests 3 (0 ∷ 0 ∷ 0 ∷ []) (2 ∷ 1 ∷ 0 ∷ []) 0 3
    ∷ most some_rests 4 (1 ∷ 0 ∷ 0 ∷ []) (3 ∷ 1 ∷ 0 ∷ []) 1 4
    ∷ most some_rests 39 (3 ∷ 2 ∷ 1 ∷ []) (21 ∷ 15 ∷ 3 ∷ []) 6 39
    ∷ granted some_rests 0 3 (0 ∷ 0 ∷ 0 ∷ [])
    ∷ refused some_rests 1 3
    ∷ refits some_rests 3 (1 ∷ 0 ∷ 0 ∷ []) ((0 ∷ 0 ∷ 0 ∷ []) ∷ [])
    ∷ refits some_rests 39 (0 ∷ 2 ∷ 3 ∷ []) ((1 ∷ 2 ∷ 2 ∷ []) ∷ (2 ∷ 2 ∷ 1 ∷ []) ∷ (3 ∷ 2 ∷ 1 ∷ []) ∷ [])
    ∷ costs 257 1 1 2
    ∷ costs 256 7 2 4
    ∷ reading_costs 256 (ratio 0x3f80_0000) 1
    ∷ reading_costs 256 (ratio 0x3fc0_0000) 2
    ∷ reading_costs 256 (ratio 0x0000_0001) 1
    ∷ reading_costs 256 (ratio 0x4b7f_fe01) 16776705
    ∷ over_costs 256 (ratio 0x4b7f_fe02)
    ∷ reading_costs 256 (levels 0x4040_0000 0x4000_0000) 2
    ∷ reading_costs 257 (ratio 0x3f80_0000) 2
    ∷ reading_costs 256 (levels 0x0000_0001 0x7f7f_ffff) 1
    ∷ over_costs 256 (levels 0x7f7f_ffff 0x0000_0001)
    ∷ limits 3 3 1
    ∷ limits 3 8 1
    ∷ limits 3 9 2
    ∷ limits_by 3 0 100 0 Cap
    ∷ limits_by 3 15 0 0 Mask
    ∷ limits_by 3 2 9 2 Cap
    ∷ sample_limits 0 5 Mask
    ∷ sample_limits 1 2 Cap
    ∷ sample_limits 2 3 Mask
    ∷ tried Pair 3 0 100 0
    ∷ tried Pair 3 15 0 1
    ∷ tried Pair 3 2 9 2
    ∷ tried Pair 3 15 100 6
    ∷ tried Pair 5 2 100 2
    ∷ tried Single 1 7 100 4
    ∷ tenths 0 256
    ∷ tenths 100 2560
    ∷ tenths 200 25600
    ∷ []
