-- The floats that are no NaN and have the sign clear: those above zero are, and the quotient of two of these is.
-- Assumes nothing.
use mathlib.Core.Bool.{Bool, true, false, not, cond}
use Prim.Native.Nat.{ℕ, zero, suc, ◌*◌, ◌^◌}
use native.Mathlib.Omega.{arith}
use borrow.Author.Tests.{ne_eqb}
use lib.Dec.{T, ltb, ltb→lt}
use lib.Ieee.{Float, nan, inf, fin, binary32, odd, units, round, div, is_nan, up, down}
use lib.Ieee.Fits.{round_is}
use lib.Ieee.Positive.{positive}

abbrev pub clear : Float → Bool
clear nan = false
clear (inf s) = not s
clear (fin s m e) = not s

pub not-nan : (x : Float) → T (clear x) → T (not (is_nan x))
unfolding is_nan
not-nan nan c = absurd c
not-nan (inf s) c = tt
not-nan (fin s m e) c = tt

pub positive-clear : (x : Float) → T (positive x) → T (clear x)
positive-clear nan p = absurd p
positive-clear (inf s) p = absurd p
positive-clear (fin true m e) p = absurd p
positive-clear (fin false m e) p = tt

-- what is rounded keeps its sign
units-clear : (q k : ℕ) → T (clear (units binary32 false q k))
unfolding units odd
units-clear q k = by (ltb (q * 2 ^ k) (2 ^ 277)) q
  where
    by : (t : Bool) (q : ℕ) → T (clear (cond t (odd 25 false q k 149) (inf false)))
    by true zero = tt
    by true (suc q) = tt
    by false q = tt

round-clear : (a c : ℕ) → T (clear (round binary32 false a c))
round-clear a c = rw (round_is binary32 false a c) (units-clear _ _)

pub quotient-clear : (x y : Float) → T (positive x) → T (positive y) → T (clear (div binary32 x y))
unfolding div
quotient-clear nan y p q = absurd p
quotient-clear (inf s) y p q = absurd p
quotient-clear (fin true m e) y p q = absurd p
quotient-clear (fin false m e) nan p q = absurd q
quotient-clear (fin false m e) (inf s) p q = absurd q
quotient-clear (fin false m e) (fin true n d) p q = absurd q
quotient-clear (fin false m e) (fin false n d) p q = rw (ne_eqb n 0 (λ z. omega (arith, ltb→lt 0 n q))) (round-clear (m * up e * down d) (n * up d * down e))
