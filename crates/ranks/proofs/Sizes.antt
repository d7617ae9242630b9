-- The size of a step: its range.
-- Assumes nothing.
use Prim.Native.Nat.{ℕ, zero, suc, ◌*◌, ◌^◌, ◌≤◌, ◌<◌}
use native.Mathlib.Nat.{le_trans, lt_of_le_of_lt, lt_of_lt_of_le, mul-suc, mul-le-mul_left, mul-lt-mul_of_pos_left}
use native.Mathlib.Omega.{arith}
use lib.Pow.{pow_pos, pow-lt, pow_mono}
use Rattle.steps.specs.Tones.{Tones, step}
use Rattle.line.specs.Arrays.{Arrays, limit_at, cost_at, doublings_at, rest_at, power_of, power_in, step_size, StepsRise, ArraysInRange, Describes}
use Rattle.line.proofs.Powers.{some-high}
use Rattle.line.proofs.Arrays.{same_step}

pub shift-less : (d b : ℕ) → d * b ≤ d * suc b
shift-less d b = omega (arith, mul-suc d b)

-- powers as if there were no rest
module _ (w d : ℕ) (dl : 0 < d) where
  -- that of one bit is no less than the cost
  first-high : w ≤ power_of w d 1
  first-high = omega (arith, mul-le-mul_left w (pow_mono {i = 1} {j = d * 1} (omega (arith, mul-suc d 0))))

  -- that of a bit more is larger
  grows : 0 < w → (b : ℕ) → power_of w d b < power_of w d (suc b)
  grows wl b =
      let l : d * b < d * suc b = omega (arith, mul-suc d b) in
      omega (arith, mul-lt-mul_of_pos_left (pow-lt l) wl, mul-le-mul_left w (pow_pos (d * b)))

module _ (w d rest : ℕ) where
  -- the power of a bit more is larger
  pub power-rises : StepsRise w d rest → (b : ℕ) → power_in w d rest b < power_in w d rest (suc b)
  power-rises S zero = lt_of_lt_of_le S.rest_low (first-high w d S.doubles)
  power-rises S (suc b) = grows w d S.doubles (omega (arith, S.rest_low)) (suc b)

  size_low : StepsRise w d rest → (b : ℕ) → 0 < step_size w d rest b
  size_low S b = omega (arith, power-rises S b)

  pub size_high : (b : ℕ) → w < 2 ^ 24 → d * suc b ≤ 15 → step_size w d rest b < 2 ^ 39
  size_high b h l = lt_of_le_of_lt {m = power_of w d (suc b)} (omega arith) (some-high w d (suc b) h l)

-- a step below the limit of a tone that the arrays describe
module _ {count : ℕ} {A : Arrays} {T : Tones} (I : ArraysInRange count A) (D : Describes count A T) where
  pub step-in-range : (i b : ℕ) → i < count → b < T.limit i → (0 < step T i b) × (step T i b < 2 ^ 39)
  step-in-range i b l h =
      let w = cost_at A i in
      let d = doublings_at A i in
      let r = rest_at A i in
      let below : b < limit_at A i = omega (arith, D.same_limit i l) in
      rw (same_step D i b l h)
      (size_low w d r (I.steps_rise i l (omega arith)) b, size_high w d r b (I.cost_high i l) (le_trans (mul-le-mul_left d below) (I.shift_high i l)))
