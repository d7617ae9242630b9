-- The power of bits within the limit is within the mask, for a tone of every kind, described or not, silenced or not.
-- Assumes nothing.
use mathlib.Core.Bool.{Bool, true, false}
use Prim.Native.Nat.{ℕ, zero, suc, ◌^◌, ◌≤◌, ◌<◌}
use native.Mathlib.Nat.{le_trans}
use native.Mathlib.Omega.{arith}
use Rattle.sizes.specs.Sizes.{most_bits_of_all}
use Rattle.silence.specs.Map.{silenced}
use Rattle.steps.specs.Tones.{sum_of_limits}
use Rattle.steps.proofs.Sums.{sum-at-most}
use Rattle.line.specs.Tone.{cost}
use Rattle.line.specs.Line.{Entry, undescribed, described, Line, gap_of, entry_of, entry_limit, entry_power, entry_mask, tones, EntryInRange, LineInRange}
use Rattle.line.proofs.Limits.{cap_high, power-mono, limit_is}

pub within_mask : (g : ℕ) (e : Entry) (q : Bool) (b : ℕ) → EntryInRange g e → b ≤ entry_limit g e q → entry_power g e q b ≤ entry_mask e
within_mask g e true zero I h = omega arith
within_mask g e true (suc b) I h = absurd (omega arith)
within_mask g undescribed false zero I h = omega arith
within_mask g undescribed false (suc b) I h = absurd (omega arith)
within_mask g (described t a) false zero I h = I.1.rest.within_mask
within_mask g (described t a) false (suc b) I h = le_trans (power-mono t (cost g t) h) (limit_is t (cost g t)).passes

mask_high : (g : ℕ) (e : Entry) → EntryInRange g e → entry_mask e ≤ 2 ^ 47
mask_high g undescribed I = omega arith
mask_high g (described t a) I = I.0.bounds.mask_high

limit-high : (g : ℕ) (e : Entry) (q : Bool) → EntryInRange g e → entry_limit g e q ≤ 15
limit-high g e true I = omega arith
limit-high g undescribed false I = omega arith
limit-high g (described t a) false I = le_trans (limit_is t (cost g t)).at_most (cap_high I.0.bounds)

module _ (l : Line) (I : LineInRange l) where
  -- the power of one tone within its limit
  pub power-high : (i b : ℕ) → i < l.size → b ≤ (tones l).limit i → (tones l).power i b ≤ 2 ^ 47
  power-high i b il h =
      le_trans (within_mask (gap_of l) (entry_of l i) (silenced l.maps i) b (I.entries i il) h)
      (mask_high (gap_of l) (entry_of l i) (I.entries i il))

  -- no limit is above 15 bits, so the limits add up to at most 15 for each of the most tones
  pub limits-high : sum_of_limits (tones l) ≤ most_bits_of_all
  limits-high =
      omega (arith, I.size_high, sum-at-most l.size 15 (tones l).limit (λ i il. limit-high (gap_of l) (entry_of l i) (silenced l.maps i) (I.entries i il)))
