-- The ceiling of a fraction is the smallest whole number not below it; so it goes by the fraction's value alone.
-- Assumes nothing.
use mathlib.Core.Path.{◌≡◌, sym}
use Prim.Native.Nat.{ℕ, zero, suc, ◌+◌, ◌-◌, ◌*◌, ◌≤◌, ◌<◌}
use native.Mathlib.Nat.{le-div_iff_mul-le, div-lt_iff_lt-mul, le_refl, le_trans, le_antisymm, mul_right_comm, mul-le-mul_left, mul-le-mul_right, le_of_mul-le-mul_right}
use native.Mathlib.Omega.{arith}
use Rattle.fractions.specs.Ceiling.{ceiling}

-- 'w is at least that exact fraction and less than 1 above it', and no smaller whole number is
pub record Ceiling (a b w : ℕ) : Type 0 where
  pub enough : a ≤ w * b
  pub close : w * b < a + b
  pub least : (v : ℕ) → a ≤ v * b → w ≤ v

pub ceiling-is : (a b : ℕ) → 1 ≤ b → Ceiling a b (ceiling a b)
ceiling-is a b h = record {
  enough = omega (arith, over);
  close = omega (arith, under);
  least = λ v le. omega (arith, (div-lt_iff_lt-mul {k = b} {x = a + (b - 1)} {y = suc v} h).1 (omega arith));
}
  where
    w : ℕ
    w = ceiling a b

    under : w * b ≤ a + (b - 1)
    under = (le-div_iff_mul-le {k = b} {x = w} {y = a + (b - 1)} h).0 (omega arith)

    over : a + (b - 1) < suc w * b
    over = (div-lt_iff_lt-mul {k = b} {x = a + (b - 1)} {y = suc w} h).0 (omega arith)

-- what is not below the second fraction is not below the first
at_most : (a b c d : ℕ) → 1 ≤ b → 1 ≤ d → ((v : ℕ) → c ≤ v * d → a ≤ v * b) → ceiling a b ≤ ceiling c d
at_most a b c d B D h = (ceiling-is a b B).least (ceiling c d) (h (ceiling c d) (ceiling-is c d D).enough)

-- equal fractions, a / b and c / d
pub ceiling-cross : (a b c d : ℕ) → 1 ≤ b → 1 ≤ d → a * d ≡ c * b → ceiling a b ≡ ceiling c d
ceiling-cross a b c d B D e = le_antisymm (half a b c d B D e) (half c d a b D B (sym e))
  where
    half : (a b c d : ℕ) → 1 ≤ b → 1 ≤ d → a * d ≡ c * b → ceiling a b ≤ ceiling c d
    half a b c d B D e = at_most a b c d B D (λ v h. le_of_mul-le-mul_right (rw (e, mul_right_comm v b d) (mul-le-mul_right b h)) D)

-- a whole number, as a fraction
pub ceiling-whole : (k b : ℕ) → 1 ≤ b → ceiling (k * b) b ≡ k
ceiling-whole k b B = let is = ceiling-is (k * b) b B in le_antisymm (is.least k (le_refl (k * b))) (le_of_mul-le-mul_right is.enough B)

-- a fraction a / b that is at most 1, and a smaller one, a / d
pub ceiling-small : (a b d : ℕ) → 1 ≤ b → a ≤ b → b ≤ d → ceiling a b ≡ ceiling a d
ceiling-small a b d B h l = le_antisymm (at_most a b a d B D up) (at_most a d a b D B (λ v k. le_trans k (mul-le-mul_left v l)))
  where
    D : 1 ≤ d
    D = omega arith

    up : (v : ℕ) → a ≤ v * d → a ≤ v * b
    up zero k = omega arith
    up (suc v) k = omega arith
