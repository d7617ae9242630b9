-- What its bits say of a float: those below the infinity's are the finite floats with the sign clear, each with its exact value.
-- Assumes nothing.
use mathlib.Core.Path.{◌≡◌, refl, sym, ◌∙◌}
use mathlib.Core.Bool.{Bool, true, false, not, ◌&&◌, cond, and-false, true≢false}
use Prim.Native.Nat.{ℕ, zero, suc, ◌+◌, ◌-◌, ◌*◌, ◌/◌, ◌%◌, ◌^◌, ◌<◌, ◌≤◌}
use native.Mathlib.Nat.{mod-eq_of_lt, mul-pos}
use native.Mathlib.Decide.{dec_lt}
use native.Mathlib.Omega.{arith}
use borrow.Author.Tests.{lt-ltb, le-ltb, lt-leb, le-leb, eq-eqb, ne_eqb}
use lib.Dec.{ltb, leb, eqb}
use lib.Pow.{pow_pos}
use lib.Ieee.{Float, nan, inf, fin, binary32, odd, of_fields, of_bits}
use lib.Ieee.Bits.{is_true}
use lib.Ieee.Exact.{HasValue, odd_sign}
use lib.Ieee.Positive.{positive, positive_of_value}
use lib.Ieee.Scale.{finite}
use Rattle.readings.proofs.Signs.{clear}

-- ---- which bits are a finite float's with the sign clear

abbrev plain : Float → Bool
plain x = finite x && clear x

plain-odd : (d : ℕ) (s : Bool) (q k l : ℕ) → plain (odd d s q k l) ≡ not s
unfolding odd
plain-odd d s zero k l = refl
plain-odd d s (suc q) k l = refl

plain-fields : (s : Bool) (x t : ℕ) → plain (of_fields binary32 s x t) ≡ (not (eqb x 255) && not s)
unfolding of_fields
plain-fields s zero t = plain-odd 24 s t 0 149
plain-fields s (suc x) t = by (eqb (suc x) 255) (eqb t 0)
  where
    by : (a b : Bool) → plain (cond a (cond b (inf s) nan) (odd 24 s (0x80_0000 + t) x 149)) ≡ (not a && not s)
    by true true = refl
    by true false = refl
    by false b = plain-odd 24 s (0x80_0000 + t) x 149

pub finite-bits : (b : ℕ) → (finite (of_bits binary32 b) && clear (of_bits binary32 b)) ≡ ltb b 0x7f80_0000
unfolding of_bits
finite-bits b = plain-fields (leb 0x8000_0000 b) (b % 0x8000_0000 / 0x80_0000) (b % 0x80_0000) ∙ by (dec_lt b 0x7f80_0000) (dec_lt b 0x8000_0000)
  where
    by : Dec (b < 0x7f80_0000) → Dec (b < 0x8000_0000) → (not (eqb (b % 0x8000_0000 / 0x80_0000) 255) && not (leb 0x8000_0000 b)) ≡ ltb b 0x7f80_0000
    by (yes h) q = simp (lt-ltb b 0x7f80_0000 h, lt-leb 0x8000_0000 b (omega arith), ne_eqb (b % 0x8000_0000 / 0x80_0000) 255 (λ e. omega arith))
    by (no h) (yes k) = simp (le-ltb b 0x7f80_0000 (omega arith), eq-eqb (b % 0x8000_0000 / 0x80_0000) 255 (omega arith))
    by (no h) (no k) = simp (le-ltb b 0x7f80_0000 (omega arith), le-leb 0x8000_0000 b (omega arith), and-false)

-- ---- the exact value of those

fields : (b : ℕ) → b < 0x8000_0000 → of_bits binary32 b ≡ of_fields binary32 false (b / 0x80_0000) (b % 0x80_0000)
unfolding of_bits
fields b h = rw (lt-leb 0x8000_0000 b h, mod-eq_of_lt h)

-- the exponent's field 0 has no leading digit
pub subnormal-value : (b : ℕ) → b < 0x80_0000 → HasValue (of_bits binary32 b) false (b % 0x80_0000 * 2 ^ 0) (2 ^ 149)
unfolding of_fields
subnormal-value b h =
    let e : b / 0x80_0000 ≡ 0 = omega arith in
    rw (fields b (omega arith), e) (odd_sign 24 false (b % 0x80_0000) 0 149)

-- any other has one
field-value : (x t : ℕ) → 0 < x → x < 255 → HasValue (of_fields binary32 false x t) false ((0x80_0000 + t) * 2 ^ (x - 1)) (2 ^ 149)
unfolding of_fields
field-value zero t l h = absurd (omega arith)
field-value (suc x) t l h =
    let e : suc x - 1 ≡ x = omega arith in
    rw (e, ne_eqb (suc x) 255 (λ q. omega arith)) (odd_sign 24 false (0x80_0000 + t) x 149)

pub normal-value : (b : ℕ) → 0x80_0000 ≤ b → b < 0x7f80_0000
    → HasValue (of_bits binary32 b) false ((0x80_0000 + b % 0x80_0000) * 2 ^ (b / 0x80_0000 - 1)) (2 ^ 149)
normal-value b l h = rw (fields b (omega arith)) (field-value (b / 0x80_0000) (b % 0x80_0000) (omega arith) (omega arith))

-- ---- they are above zero, unless no bit is set

pub usable-bits : (b : ℕ) → 0 < b → ltb b 0x7f80_0000 ≡ positive (of_bits binary32 b)
usable-bits b l = by (dec_lt b 0x80_0000) (dec_lt b 0x7f80_0000)
  where
    x : Float
    x = of_bits binary32 b

    not_plain : (x : Float) → plain x ≡ false → positive x ≡ false
    not_plain nan e = refl
    not_plain (inf s) e = refl
    not_plain (fin true m e) q = refl
    not_plain (fin false m e) q = absurd (true≢false q)

    above : (a : ℕ) → HasValue x false a (2 ^ 149) → 0 < a → b < 0x7f80_0000 → ltb b 0x7f80_0000 ≡ positive x
    above a v p h = lt-ltb b 0x7f80_0000 h ∙ sym (is_true _ (positive_of_value x a (2 ^ 149) v p))

    by : Dec (b < 0x80_0000) → Dec (b < 0x7f80_0000) → ltb b 0x7f80_0000 ≡ positive x
    by (yes h) q = above _ (subnormal-value b h) (omega arith) (omega arith)
    by (no h) (yes k) = above _ (normal-value b (omega arith) k) (mul-pos (omega arith) (pow_pos (b / 0x80_0000 - 1))) k
    by (no h) (no k) = let e = le-ltb b 0x7f80_0000 (omega arith) in e ∙ sym (not_plain x (finite-bits b ∙ e))
