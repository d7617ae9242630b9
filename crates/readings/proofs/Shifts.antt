-- A product × 2^exponent / 2^157 is rounded up by one shift, which goes no further than decides the answer: 24 to the left, 40 to the right.
-- Assumes nothing.
use mathlib.Core.Path.{◌≡◌, refl, sym, ◌∙◌}
use mathlib.Core.Logic.{inl, inr}
use Prim.Native.Nat.{ℕ, zero, suc, ◌+◌, ◌-◌, ◌*◌, ◌%◌, ◌^◌, ◌≤◌, ◌<◌, min}
use native.Mathlib.Nat.{mul_assoc, zero-mul, one-mul, mul-le-mul_right}
use native.Mathlib.Decide.{dec_le}
use native.Mathlib.Omega.{arith}
use lib.Pow.{pow-add, pow_pos, pow_mono, shl_exact}
use Rattle.fractions.specs.Ceiling.{ceiling}
use Rattle.fractions.proofs.Ceiling.{ceiling-cross, ceiling-whole, ceiling-small}
use Rattle.readings.specs.Reading.{SameOrOver}

-- two shifts to the left are one
twice : (p i j n : ℕ) → n ≡ i + j → p * 2 ^ n ≡ p * 2 ^ i * 2 ^ j
twice p i j n e = rw (e, pow-add 2 i j) (sym (mul_assoc p (2 ^ i) (2 ^ j)))

-- to the left the fraction is a whole number
pub left_is : (p e : ℕ) → 157 ≤ e → SameOrOver (p * 2 ^ min (e - 157) 24) (ceiling (p * 2 ^ e) (2 ^ 157))
left_is p e h = rw (twice p (e - 157) 157 e (omega arith), ceiling-whole (p * 2 ^ (e - 157)) (2 ^ 157) (pow_pos 157)) (by p (dec_le (e - 157) 24))
  where
    by : (p : ℕ) → Dec (e - 157 ≤ 24) → SameOrOver (p * 2 ^ min (e - 157) 24) (p * 2 ^ (e - 157))
    by p (yes l) = let m : min (e - 157) 24 ≡ e - 157 = omega arith in rw m (inl refl)
    by zero (no l) = inl (zero-mul _ ∙ sym (zero-mul _))
    by (suc p) (no l) =
        let m : min (e - 157) 24 ≡ 24 = omega arith in
        let k : 1 * 2 ^ (e - 157) ≤ suc p * 2 ^ (e - 157) = mul-le-mul_right (2 ^ (e - 157)) (omega arith) in
        rw m (inr (omega arith, omega (arith, pow_mono {i = 24} {j = e - 157} (omega arith))))

-- to the right it is the product / 2^shift
pub right_is : (p e : ℕ) → p < 2 ^ 40 → e ≤ 157 → ceiling p (2 ^ min (157 - e) 40) ≡ ceiling (p * 2 ^ e) (2 ^ 157)
right_is p e h l =
    by (dec_le (157 - e) 40)
    ∙ ceiling-cross p (2 ^ (157 - e)) (p * 2 ^ e) (2 ^ 157) (pow_pos (157 - e)) (pow_pos 157) (twice p e (157 - e) 157 (omega arith))
  where
    by : Dec (157 - e ≤ 40) → ceiling p (2 ^ min (157 - e) 40) ≡ ceiling p (2 ^ (157 - e))
    by (yes k) = let m : min (157 - e) 40 ≡ 157 - e = omega arith in rw m
    by (no k) =
        let m : min (157 - e) 40 ≡ 40 = omega arith in
        rw m (ceiling-small p (2 ^ 40) (2 ^ (157 - e)) (pow_pos 40) (omega arith) (pow_mono {i = 40} {j = 157 - e} (omega arith)))

-- the 1 that is shifted as far
pub unit-is : (s : ℕ) → s ≤ 40 → (1 * 2 ^ s) % 2 ^ 64 ≡ 2 ^ s
unit-is s h = shl_exact {a = 1} 1 s 64 (omega arith) (omega arith) ∙ one-mul (2 ^ s)
