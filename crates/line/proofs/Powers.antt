-- The power of bits by the code's account of a tone: of none the rest, of more as if there were no rest. Its range.
-- Assumes nothing.
use mathlib.Core.Path.{◌≡◌, refl}
use Prim.Native.Nat.{ℕ, zero, suc, ◌+◌, ◌*◌, ◌^◌, ◌≤◌, ◌<◌}
use native.Mathlib.Nat.{lt_of_le_of_lt, lt_of_lt_of_le}
use native.Mathlib.Omega.{arith}
use lib.Pow.{pow_mono, shl_lt}
use Rattle.line.specs.Arrays.{power_of, power_in}

-- the power of bits in range, as if there were no rest
pub some-high : (w d b : ℕ) → w < 2 ^ 24 → d * b ≤ 15 → power_of w d b < 2 ^ 39
some-high w d b h l =
    lt_of_le_of_lt {m = w * 2 ^ (d * b)} (omega arith) (lt_of_lt_of_le (shl_lt 24 (d * b) h) (pow_mono {i = 24 + d * b} {j = 39} (omega arith)))

module _ (w d rest : ℕ) where
  pub power-none : (b : ℕ) → b ≤ 0 → power_in w d rest b ≡ rest
  power-none zero h = refl
  power-none (suc b) h = absurd (omega arith)

  pub power-some : (b : ℕ) → 0 < b → power_in w d rest b ≡ power_of w d b
  power-some zero h = absurd (omega arith)
  power-some (suc b) h = refl

  -- the power of bits in range, with a rest in range
  pub power-high : (b : ℕ) → w < 2 ^ 24 → d * b ≤ 15 → rest < 2 ^ 24 → power_in w d rest b < 2 ^ 39
  power-high zero h l r = omega arith
  power-high (suc b) h l r = some-high w d (suc b) h l
