-- One tone. Document 01, 'Cost, power and limit of a tone'; document 02, W3, W5, W6 and W9.
-- Assumes nothing.
use Rattle.std.specs.Prelude.{Bool, true, false, ◌&&◌, cond, ◌≡◌, ℕ, zero, suc, ◌-◌, ◌*◌, ◌^◌, ◌≤◌, ◌<◌, leb, ltb}
use Rattle.std.proofs.Math.Logic.{ite}
use Rattle.std.proofs.Math.Decide.{dec_le}
use Rattle.sizes.specs.Sizes.{pair_cap, single_cap, most_power, most_cost}
use Rattle.gaps.specs.Gap.{gap_unit}
use Rattle.fractions.specs.Ceiling.{ceiling}
use Rattle.readings.specs.Reading.{reading_cost, ReadingInRange}
use Rattle.line.specs.declared.Numbers.{Numbers}
use Rattle.line.specs.declared.Bounds.{Bounds}
use Rattle.line.specs.declared.Kind.{Kind}
use Rattle.line.specs.declared.Kind.TheVariants.{Pair, Single, Read}
use Rattle.line.specs.declared.Tone.{Tone}
use Rattle.line.specs.declared.SetBy.{SetBy}
use Rattle.line.specs.declared.SetBy.TheVariants.{Cap, Mask}
use Rattle.line.specs.declared.Limit.{Limit}

-- 'A described tone carries its kind, and the kind carries what belongs to it': of every kind, cap and mask.
abbrev pub kind_bounds : Kind → Bounds
kind_bounds (Pair n) = record { cap = n.cap; mask = n.mask }
kind_bounds (Single n) = record { cap = n.cap; mask = n.mask }
kind_bounds (Read n) = record { cap = n.cap; mask = n.mask }

abbrev pub bounds_of : Tone → Bounds
bounds_of t = kind_bounds t.kind

-- a tone of either kind with whole numbers
abbrev pub kind_of : (single : Bool) → Numbers → Kind
kind_of false = Pair
kind_of true = Single

abbrev pub is_single : Kind → Bool
is_single (Pair n) = false
is_single (Single n) = true
is_single (Read n) = false

-- 'The kinds are pair (two-dimensional, cap 0 to 15) and single (one-dimensional, cap 0 to 7).'
abbrev pub most_cap : (single : Bool) → ℕ
most_cap false = pair_cap
most_cap true = single_cap

-- 'Cost w is the smallest whole number not below g × noise / (256 × gain).' W5, of a reading: 'the larger of 1 and the smallest whole number
-- not below g × ratio / 256'.
unfoldable pub whole_cost : (g : ℕ) → Numbers → ℕ
whole_cost g n = ceiling (g * n.noise) (gap_unit * n.gain)

unfoldable pub kind_cost : (g : ℕ) → Kind → ℕ
unfolding whole_cost
kind_cost g (Pair n) = whole_cost g n
kind_cost g (Single n) = whole_cost g n
kind_cost g (Read n) = reading_cost g n.reading

abbrev pub cost : (g : ℕ) → Tone → ℕ
cost g t = kind_cost g t.kind

-- 'from 1 to 16,776,705'
pub record Cost (w : ℕ) : Type 0 where
  pub low : 1 ≤ w
  pub high : w ≤ most_cost

-- noise and gain from 1 to 65,535; of a reading, what 12 and an infinite quotient leave
pub record NumbersInRange (n : Numbers) : Type 0 where
  pub noise_low : 1 ≤ n.noise
  pub noise_high : n.noise ≤ 65535
  pub gain_low : 1 ≤ n.gain
  pub gain_high : n.gain ≤ 65535

abbrev pub KindInRange : Kind → Type 0
KindInRange (Pair n) = NumbersInRange n
KindInRange (Single n) = NumbersInRange n
KindInRange (Read n) = ReadingInRange n.reading

-- a cap that the kind may have, and a mask from 0 to 2^47
pub record BoundsInRange (t : Tone) : Type 0 where
  pub cap_high : (bounds_of t).cap ≤ most_cap (is_single t.kind)
  pub mask_high : (bounds_of t).mask ≤ most_power

-- The range of a tone goes by the line's gap: its cost is from 1 to 16,776,705. Of whole numbers that follows from theirs; of a reading it is
-- what 13 leaves.
pub record InRange (g : ℕ) (t : Tone) : Type 0 where
  pub kind : KindInRange t.kind
  pub bounds : BoundsInRange t
  pub cost : Cost (cost g t)

-- W6, refusal 15: 'the rest is not below the cost or is above the mask'; else it is one that the tone takes
abbrev pub is_below : (cost mask rest : ℕ) → Bool
is_below cost mask rest = ltb rest cost && leb rest mask

abbrev pub is_rest : (g : ℕ) → Tone → (rest : ℕ) → Bool
is_rest g t rest = is_below (cost g t) (bounds_of t).mask rest

pub record RestInRange (g : ℕ) (t : Tone) (rest : ℕ) : Type 0 where
  pub below_cost : rest < cost g t
  pub within_mask : rest ≤ (bounds_of t).mask

-- W9: 'only for tones of 04, 05 or their twins': the noise of a tone with whole numbers. One with a reading has no such number, and 0 stands
-- for it.
abbrev pub noise_of : Kind → ℕ
noise_of (Pair n) = n.noise
noise_of (Single n) = n.noise
noise_of (Read n) = 0

abbrev pub has_noise : Kind → Bool
has_noise (Pair n) = true
has_noise (Single n) = true
has_noise (Read n) = false

-- W9, the high noise: '2 bytes, at least the tone's noise'
pub record NoiseRange (noise high : ℕ) : Type 0 where
  pub at_least : noise ≤ high
  pub two_bytes : high ≤ 65535

abbrev pub HighInRange : Kind → (high : ℕ) → Type 0
HighInRange (Pair n) high = NoiseRange n.noise high
HighInRange (Single n) high = NoiseRange n.noise high
HighInRange (Read n) high = high ≡ 0

-- 'Power of b bits: pair w × (2^b − 1), single w × (4^b − 1). No bits, no power.' W5: 'Such a tone is a pair tone to all the loadings.' W6 puts the
-- rest in the place of the power at no bits: `entry_power` of specs/Line.antt.
unfoldable pub kind_power : Kind → (w b : ℕ) → ℕ
kind_power (Pair n) w b = w * (2 ^ b - 1)
kind_power (Single n) w b = w * (4 ^ b - 1)
kind_power (Read n) w b = w * (2 ^ b - 1)

abbrev pub power : Tone → (w b : ℕ) → ℕ
power t w b = kind_power t.kind w b

-- 'The step of a tone at b bits is the power of b + 1 bits less the power of b.'
abbrev pub step : Tone → (w b : ℕ) → ℕ
step t w b = power t w (suc b) - power t w b

-- 'Doubling the step of a single tone; it goes up fourfold': one bit more doubles a step so many times.
abbrev pub doublings_of : Kind → ℕ
doublings_of (Pair n) = 1
doublings_of (Single n) = 2
doublings_of (Read n) = 1

abbrev pub doublings : Tone → ℕ
doublings t = doublings_of t.kind

-- the largest b that is at most n and passes the test, 0 where none does
unfoldable pub largest : {P : ℕ → Type 0} → ((b : ℕ) → Dec (P b)) → (n : ℕ) → ℕ
largest test zero = zero
largest test (suc n) = ite (test (suc n)) (suc n) (largest test n)

-- 'The limit of a tone is the largest b that is at most the cap and has power at most the mask.'
unfoldable pub limit : Tone → (w : ℕ) → ℕ
limit t w = largest (λ b. dec_le (power t w b) (bounds_of t).mask) (bounds_of t).cap

-- W3: 'On a described, unsilenced tone it is mask exactly if one bit more would still be within the cap but over the mask, and cap
-- otherwise.'
unfoldable pub set_by : Tone → (w : ℕ) → SetBy
set_by t w =
    let one_more = suc (limit t w) in
    cond (leb one_more (bounds_of t).cap && ltb (bounds_of t).mask (power t w one_more)) Mask Cap

-- 'A tone's limit now comes with what set it.'
abbrev pub limit_of : Tone → (w : ℕ) → Limit
limit_of t w = record { bits = limit t w; by = set_by t w }
