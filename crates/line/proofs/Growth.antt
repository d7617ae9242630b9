-- Powers and steps that grow by a power of 2, for every kind. The kinds are told apart in `power-shift` and in the bounds on doublings and shifts.
-- Assumes nothing.
use mathlib.Core.Path.{◌≡◌, refl, ap, ◌∙◌}
use Prim.Native.Nat.{ℕ, zero, suc, ◌+◌, ◌-◌, ◌*◌, ◌^◌, ◌≤◌, ◌<◌}
use native.Mathlib.Nat.{mul-sub, mul-suc, pow-suc, mul-le-mul, mul-le-mul_left}
use native.Mathlib.Omega.{arith}
use lib.Pow.{pow_pos, pow-add, pow_mono}
use Rattle.line.specs.declared.Kind.{Kind}
use Rattle.line.specs.declared.Kind.TheVariants.{Pair, Single, Read}
use Rattle.line.specs.declared.Tone.{Tone}
use Rattle.line.specs.Tone.{is_single, most_cap, kind_power, doublings_of, doublings, bounds_of, BoundsInRange, power, step}

four-pow : (b : ℕ) → 4 ^ b ≡ 2 ^ (2 * b)
four-pow zero = refl
four-pow (suc b) =
    let e : 2 * suc b ≡ 2 * b + 2 = omega arith in
    omega (arith, pow-suc 4 b, four-pow b, ap (λ (n : ℕ). 2 ^ n) e ∙ pow-add 2 (2 * b) 2)

two-shift : (w b : ℕ) → w * (2 ^ b - 1) ≡ w * 2 ^ (1 * b) - w
two-shift w b =
    let e : 1 * b ≡ b = omega arith in
    rw (mul-sub w (2 ^ b) 1, e) (omega arith)

-- the power of b bits is the cost shifted by so many doublings, less the cost
pub power-shift : (k : Kind) (w b : ℕ) → kind_power k w b ≡ w * 2 ^ (doublings_of k * b) - w
unfolding kind_power
power-shift (Pair n) w b = two-shift w b
power-shift (Single n) w b = rw (mul-sub w (4 ^ b) 1, four-pow b) (omega arith)
power-shift (Read n) w b = two-shift w b

pub doublings-low : (k : Kind) → 1 ≤ doublings_of k
doublings-low (Pair n) = omega arith
doublings-low (Single n) = omega arith
doublings-low (Read n) = omega arith

pub doublings-high : (k : Kind) → doublings_of k ≤ 2
doublings-high (Pair n) = omega arith
doublings-high (Single n) = omega arith
doublings-high (Read n) = omega arith

shift_high : (k : Kind) (b cap : ℕ) → b ≤ cap → cap ≤ most_cap (is_single k) → doublings_of k * b ≤ 15
shift_high (Pair n) b cap h l = omega arith
shift_high (Single n) b cap h l = omega arith
shift_high (Read n) b cap h l = omega arith

-- ---- for any number of doublings d

module _ (w d b : ℕ) where
  -- shifted, the cost is no less
  cost-under : (n : ℕ) → w * 1 ≤ w * 2 ^ n
  cost-under n = mul-le-mul_left w (pow_pos n)

  pow-next : 2 ^ (d * suc b) ≡ 2 ^ (d * b) * 2 ^ d
  pow-next = ap (λ (n : ℕ). 2 ^ n) (mul-suc d b) ∙ pow-add 2 (d * b) d

  -- the power of one bit more is the power so far, shifted, and the power of 1 bit
  pub power-next : w * 2 ^ (d * suc b) - w ≡ (w * 2 ^ (d * b) - w) * 2 ^ d + (w * 2 ^ (d * 1) - w)
  power-next =
      let x : ℕ = 2 ^ (d * b) in
      let g : ℕ = 2 ^ d in
      let p : ℕ = w * x - w in
      let one : d * 1 ≡ d = omega arith in
      let lx : w * 1 ≤ w * x = cost-under (d * b) in
      let lg : w * 1 ≤ w * g = cost-under d in
      let pw : p + w ≡ w * x = omega arith in
      rw (pow-next, one) (omega (arith, ap (λ (n : ℕ). n * g) pw))

  -- what one bit more adds
  step-shift : (w * 2 ^ (d * suc b) - w) - (w * 2 ^ (d * b) - w) ≡ (w * 2 ^ d - w) * 2 ^ (d * b)
  step-shift =
      let x : ℕ = 2 ^ (d * b) in
      let g : ℕ = 2 ^ d in
      let h : ℕ = w * g - w in
      let lx : w * 1 ≤ w * x = cost-under (d * b) in
      let lg : w * 1 ≤ w * g = cost-under d in
      let hw : h + w ≡ w * g = omega arith in
      rw pow-next (omega (arith, ap (λ (n : ℕ). n * x) hw))

  steps_rise : 1 ≤ w → 1 ≤ d → (w * 2 ^ d - w) * 2 ^ (d * b) < (w * 2 ^ d - w) * 2 ^ (d * suc b)
  steps_rise wl dl =
      let x : ℕ = 2 ^ (d * b) in
      let h : ℕ = w * 2 ^ d - w in
      let two : 2 ≤ 2 ^ d = pow_mono {i = 1} dl in
      let hl : w ≤ h = omega (arith, mul-le-mul_left w two) in
      let xl : 1 ≤ x = pow_pos (d * b) in
      let s : 1 ≤ h * x = mul-le-mul {n₁ = 1} {m₁ = 1} (omega arith) xl in
      rw pow-next (omega (arith, mul-le-mul_left (h * x) two))

-- ---- for every kind

pub power-is : (t : Tone) (w b : ℕ) → power t w b ≡ w * 2 ^ (doublings t * b) - w
power-is t w b = power-shift t.kind w b

pub step_is : (t : Tone) (w b : ℕ) → step t w b ≡ (w * 2 ^ doublings t - w) * 2 ^ (doublings t * b)
step_is t w b = rw (power-is t w (suc b), power-is t w b) (step-shift w (doublings t) b)

pub power-grows : (t : Tone) (w b : ℕ) → power t w b ≤ power t w (suc b)
power-grows t w b =
    let l : doublings t * b ≤ doublings t * suc b = omega (arith, mul-suc (doublings t) b) in
    rw (power-is t w (suc b), power-is t w b) (omega (arith, mul-le-mul_left w (pow_mono l)))

-- the steps of a tone of every kind rise strictly
pub step-rises : (t : Tone) (w b : ℕ) → 1 ≤ w → step t w b < step t w (suc b)
step-rises t w b l =
    rw (step_is t w b, step_is t w (suc b)) (steps_rise w (doublings t) b l (doublings-low t.kind))

pub power_zero : (t : Tone) (w : ℕ) → power t w 0 ≡ 0
power_zero t w = let e : doublings t * 0 ≡ 0 = omega arith in rw (power-is t w 0, e) (omega arith)

-- the power of 1 bit is no less than the cost
pub power-one : (t : Tone) (w : ℕ) → w ≤ power t w 1
power-one t w =
    let e : doublings t * 1 ≡ doublings t = omega arith in
    let two : 2 ≤ 2 ^ doublings t = pow_mono {i = 1} (doublings-low t.kind) in
    rw (power-is t w 1, e) (omega (arith, mul-le-mul_left w two))

-- a shift that the ranges allow
pub shift-at-most : (t : Tone) (b : ℕ) → b ≤ (bounds_of t).cap → BoundsInRange t → doublings t * b ≤ 15
shift-at-most t b h I = shift_high t.kind b (bounds_of t).cap h I.cap_high
