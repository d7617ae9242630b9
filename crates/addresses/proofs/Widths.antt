-- Command bytes and their short ones, by the width of the tone number.
-- Assumes nothing.
use mathlib.Core.List.{List}
use mathlib.Core.Logic.{◌⊎◌, inl, inr, ⊎_elim}
use mathlib.Core.Path.{◌≡◌, sym, ◌∙◌}
use Prim.Native.Nat.{ℕ, ◌+◌, ◌*◌, ◌≤◌, ◌<◌}
use native.Mathlib.Decide.{dec_lt}
use native.Mathlib.Omega.{arith}
use borrow.Author.Tests.{le-ltb, lt-ltb}
use lib.ListN.{length, get_or, get_or-eq_default}
use Rattle.bigendian.specs.Number.{byte_base, number}
use Rattle.bigendian.proofs.Numbers.{number-one, number-next}
use Rattle.addresses.specs.Addresses.{twin, code_of, number_width, short_of, addressed}

-- a tone number has one byte or two
abbrev pub IsWidth : (w : ℕ) → Type 0
IsWidth w = (w ≡ 1) ⊎ (w ≡ 2)

module _ (code : ℕ) where
  -- a byte below the twins' is a short command's
  pub short-width : code < twin → number_width code ≡ 1
  short-width h = rw (lt-ltb code twin h)

  pub twin-width : twin ≤ code → number_width code ≡ 2
  twin-width h = rw (le-ltb code twin h)

  pub short-is : code < twin → short_of code ≡ code
  short-is h = rw (lt-ltb code twin h)

  pub twin-is : twin ≤ code → short_of code + twin ≡ code
  twin-is h = rw (le-ltb code twin h) (omega arith)

  pub width_low : 1 ≤ number_width code
  width_low = by (dec_lt code twin)
    where
      by : Dec (code < twin) → 1 ≤ number_width code
      by (yes h) = omega (arith, short-width h)
      by (no h) = omega (arith, twin-width (omega arith))

  pub width-high : number_width code ≤ 2
  width-high = by (dec_lt code twin)
    where
      by : Dec (code < twin) → number_width code ≤ 2
      by (yes h) = omega (arith, short-width h)
      by (no h) = omega (arith, twin-width (omega arith))

  -- a short command's byte leaves room for its twin's
  pub short-low : code < byte_base → short_of code + twin < byte_base
  short-low h = by (dec_lt code twin)
    where
      by : Dec (code < twin) → short_of code + twin < byte_base
      by (yes k) = omega (arith, short-is k)
      by (no k) = omega (arith, twin-is (omega arith))

  -- a byte whose short command's is known is that one or its twin's
  pub one-of-both : (short : ℕ) → short_of code ≡ short → (code ≡ short) ⊎ (code ≡ short + twin)
  one-of-both short e = by (dec_lt code twin)
    where
      by : Dec (code < twin) → (code ≡ short) ⊎ (code ≡ short + twin)
      by (yes h) = inl (sym (short-is h) ∙ e)
      by (no h) = inr (omega (arith, twin-is (omega arith)))

  -- and where it is neither, the short command's is another
  pub neither : (short : ℕ) → (code ≡ short → ⊥) → (code ≡ short + twin → ⊥) → short_of code ≡ short → ⊥
  neither short p q e = ⊎_elim p q (one-of-both short e)

-- the width and the short command's byte come back from the byte that they make
module _ (w short : ℕ) (wide : IsWidth w) (small : short < twin) where
  short-byte : w ≡ 1 → code_of w short ≡ short
  short-byte e = omega arith

  twin-byte : w ≡ 2 → code_of w short ≡ short + twin
  twin-byte e = omega arith

  pub width_back : number_width (code_of w short) ≡ w
  width_back = ⊎_elim (λ e. short-width (code_of w short) (omega (arith, short-byte e)) ∙ sym e) (λ e. twin-width (code_of w short) (omega (arith, twin-byte e)) ∙ sym e) wide

  pub short_back : short_of (code_of w short) ≡ short
  short_back =
      ⊎_elim (λ e. short-is (code_of w short) (omega (arith, short-byte e)) ∙ short-byte e)
      (λ e. omega (arith, twin-byte e, twin-is (code_of w short) (omega (arith, twin-byte e)))) wide

-- a number of two bytes, byte by byte
pub number-two : (s : List ℕ) (at next : ℕ) → next ≡ at + 1 → get_or s at 0 * 256 + get_or s next 0 ≡ number s at 2
number-two s at next e = rw e (number-next s at 1 (get_or s at 0) (sym (number-one s at)))

-- past the end there is no tone
pub none-addressed : (s : List ℕ) (at : ℕ) → length s ≤ at → addressed s at ≡ 0
none-addressed s at h =
    let past : get_or s at 0 ≡ 0 = get_or-eq_default s 0 h in
    rw past (number-one s (at + 1) ∙ get_or-eq_default s 0 {n = at + 1} (omega arith))
