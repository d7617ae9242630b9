-- The search for a limit, turn by turn: what is known between the turns, the power that a turn tries, and what is answered where it stops.
-- Assumes nothing.
use mathlib.Core.Path.{◌≡◌, sym, ap, ◌∙◌}
use Prim.Native.Nat.{ℕ, suc, ◌+◌, ◌-◌, ◌*◌, ◌^◌, ◌%◌, ◌≤◌, ◌<◌}
use native.Mathlib.Nat.{mul-le-mul}
use native.Mathlib.Numerals.{add-one}
use native.Mathlib.Omega.{arith}
use lib.Pow.{pow_mono, shl_exact}
use Rattle.sizes.specs.Sizes.{most_cost}
use Rattle.line.specs.declared.Bounds.{Bounds}
use Rattle.line.specs.declared.Tone.{Tone}
use Rattle.line.specs.declared.SetBy.TheVariants.{Cap, Mask}
use Rattle.line.specs.declared.Limit.{Limit}
use Rattle.line.specs.Tone.{bounds_of, doublings, BoundsInRange, Cost, power, limit_of}
use Rattle.line.specs.Tries.{tries}
use Rattle.line.specs.Arrays.{power_of}
use Rattle.line.proofs.Growth.{doublings-high, power-is, power-next}
use Rattle.line.proofs.Limits.{cap_high, Allowed, mask-stops, mask-tries, cap-stops, cap-tries}

-- what the search goes by: the bounds n and the doublings d of tone t, and its cost w
pub record Searched (t : Tone) (w : ℕ) (n : Bounds) (d : ℕ) : Type 0 where
  pub cost : Cost w
  pub in_range : BoundsInRange t
  pub bounds : n ≡ bounds_of t
  pub shift : d ≡ doublings t

-- between the turns: b bits are within the cap, and their power p within the mask; as many powers were tried
pub record Between (w : ℕ) (n : Bounds) (d b tried p : ℕ) : Type 0 where
  pub at_most : b ≤ n.cap
  pub power_is : p ≡ power_of w d b
  pub under : p ≤ n.mask
  pub counted : tried ≡ b

module _ {t : Tone} {w : ℕ} {n : Bounds} {d : ℕ} (S : Searched t w n d) where
  cap-is : n.cap ≡ (bounds_of t).cap
  cap-is = ap (λ (m : Bounds). m.cap) S.bounds

  mask_is : n.mask ≡ (bounds_of t).mask
  mask_is = ap (λ (m : Bounds). m.mask) S.bounds

  power_in : (b : ℕ) → power_of w d b ≡ power t w b
  power_in b = rw S.shift (sym (power-is t w b))

  pub shift-at-most-2 : d ≤ 2
  shift-at-most-2 = omega (arith, S.shift, doublings-high t.kind)

  module _ {b tried p : ℕ} (B : Between w n d b tried p) where
    -- one bit more is a number of 8 bits
    pub one_more : b + 1 < 2 ^ 8
    one_more = omega (arith, B.at_most, cap-is, cap_high S.in_range)

    power-high : p ≤ 2 ^ 47
    power-high = omega (arith, B.under, mask_is, S.in_range.mask_high)

    -- the shift loses no bit
    shift-exact : p * 2 ^ d % 2 ^ 64 ≡ p * 2 ^ d
    shift-exact = shl_exact 48 d 64 (omega (arith, power-high)) (omega (arith, shift-at-most-2))

    module _ {first : ℕ} (F : first ≡ power_of w d 1) where
      -- the power that a turn tries is that of one bit more
      pub next : p * 2 ^ d % 2 ^ 64 + first ≡ power_of w d (b + 1)
      next = rw (shift-exact, B.power_is, F, add-one b) (sym (power-next w d b))

      pub next_fits : p * 2 ^ d % 2 ^ 64 + first < 2 ^ 64
      next_fits =
          let most : 2 ^ d ≤ 2 ^ 2 = pow_mono shift-at-most-2 in
          let shifted : p * 2 ^ d ≤ 2 ^ 47 * 2 ^ 2 = mul-le-mul power-high most in
          let added : w * 2 ^ d ≤ most_cost * 2 ^ 2 = mul-le-mul S.cost.high most in
          let one : d * 1 ≡ d = omega arith in
          omega (arith, shift-exact, shifted, added, F, ap (λ (x : ℕ). w * 2 ^ x - w) one)

    allowed : Allowed t w b
    allowed = record {
      at_most = omega (arith, B.at_most, cap-is);
      under = omega (arith, B.under, mask_is, B.power_is, power_in b);
    }

    pub mask-ends : b < n.cap → n.mask < power_of w d (b + 1)
        → (◌≡◌ {A = Limit} (record { bits = b; by = Mask }) (limit_of t w)) × (tried + 1 ≡ tries t w)
    mask-ends below over =
        let lower : b < (bounds_of t).cap = omega (arith, below, cap-is) in
        let above : (bounds_of t).mask < power t w (suc b) = omega (arith, over, mask_is, power_in (suc b), ap (power_of w d) (add-one b)) in
        (mask-stops t w allowed lower above, omega (arith, B.counted, mask-tries t w allowed lower above))

    pub cap-ends : n.cap ≤ b → (◌≡◌ {A = Limit} (record { bits = n.cap; by = Cap }) (limit_of t w)) × (tried ≡ tries t w)
    cap-ends full =
        let at_cap : (bounds_of t).cap ≤ b = omega (arith, full, cap-is) in
        let same : n.cap ≡ b = omega (arith, full, B.at_most) in
        (rw same (cap-stops t w allowed at_cap), B.counted ∙ cap-tries t w allowed at_cap)
