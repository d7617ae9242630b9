-- The gap of so many tenths of a decibel is what W1 calls it, and lies in the gap's range; so is each entry of a table that passes a test.
-- Assumes nothing.
use mathlib.Core.Bool.{Bool, true, false, cond}
use mathlib.Core.List.{List, [], ◌∷◌}
use mathlib.Core.Path.{◌≡◌, sym, subst}
use Prim.Native.Nat.{ℕ, zero, suc, ◌+◌, ◌-◌, ◌^◌, ◌≤◌, ◌<◌}
use native.Mathlib.Decide.{dec_le}
use native.Mathlib.Nat.{le_trans, lt_of_lt_of_le, not-le_of_lt, pow-le-pow_left, pow-le-pow_right, mul-le-mul_left, le-mul_of_pos_right, one-le-pow, zero-add}
use native.Mathlib.Omega.{arith}
use borrow.Author.Tests.{le-ltb}
use lib.Dec.{T, leb, ltb, lit<, lit≤}
use lib.ListN.{get_or}
use Rattle.gaps.specs.declared.Gap.{Gap}
use Rattle.gaps.specs.declared.Gap.TheVariants.{Parts, Tenths}
use Rattle.gaps.specs.Gap.{gap_unit, most_gap, most_tenths, threshold, Reaches, Smallest, gap_of_tenths, TenthsTable, parts, PartsInRange, GapInRange}
use Rattle.gaps.proofs.Smallest.{smallest-is, smallest-unique}

-- ---- the rule

-- where the power of the number before g is below x, no number below g has one of x or more
stops : (n x g : ℕ) → (g - 1) ^ n < x → (k : ℕ) → x ≤ k ^ n → g ≤ k
stops n x g under k h = by (dec_le g k)
  where
    by : Dec (g ≤ k) → g ≤ k
    by (yes l) = l
    by (no m) =
        let l : k ≤ g - 1 = omega arith in
        absurd (not-le_of_lt under (le_trans h (pow-le-pow_left l n)))

-- the largest gap reaches every tenth
most-reaches : (d : ℕ) → d ≤ most_tenths → Reaches d most_gap
most-reaches d h = le_trans (mul-le-mul_left (gap_unit ^ 100) (pow-le-pow_right {n = 10} (lit< tt) h)) (lit≤ tt)

-- no number below 256 reaches any
unit-least : (d k : ℕ) → Reaches d k → gap_unit ≤ k
unit-least d k h =
    stops 100 (threshold d) gap_unit (lt_of_lt_of_le (lit< tt) (le-mul_of_pos_right (gap_unit ^ 100) (one-le-pow d 10 (lit< tt)))) k h

-- W1: 'the smallest whole g with g^100 at least 256^100 × 10^d', for every d up to 240
pub tenths-smallest : (d : ℕ) → d ≤ most_tenths → Smallest (Reaches d) (gap_of_tenths d)
unfolding gap_of_tenths
tenths-smallest d h =
    smallest-is (λ g. dec_le (threshold d) (g ^ 100)) most_gap (most-reaches d h) (suc most_gap) 0 (λ j q. omega arith) (lit< tt)

tenths-in-range : (d : ℕ) → d ≤ most_tenths → PartsInRange (gap_of_tenths d)
tenths-in-range d h =
    let S = tenths-smallest d h in
    record { low = unit-least d (gap_of_tenths d) S.passes; high = S.least most_gap (most-reaches d h) }

-- a gap in range is in range in 1/256 too
pub parts-in-range : (g : Gap) → GapInRange g → PartsInRange (parts g)
parts-in-range (Parts g) I = I
parts-in-range (Tenths d) I = rw (le-ltb most_tenths d I) (tenths-in-range d I)

-- ---- a table of gaps, entry by entry

-- an entry reaches its tenth, and the number before it does not
unfoldable pub right : (d g : ℕ) → Bool
right d g = cond (leb (threshold d) (g ^ 100)) (ltb ((g - 1) ^ 100) (threshold d)) false

-- the n entries from tenth d on are there, and right
unfoldable pub all_right : (d n : ℕ) → List ℕ → Bool
unfolding right
all_right d zero gs = true
all_right d (suc n) [] = false
all_right d (suc n) (g ∷ gs) = cond (right d g) (all_right (suc d) n gs) false

-- both of two tests that pass one after the other
passed : (a b : Bool) → T (cond a b false) → T a × T b
passed true b t = (tt, t)
passed false b t = absurd t

right-smallest : (d g : ℕ) → T (right d g) → Smallest (Reaches d) g
unfolding right
right-smallest d g t =
    let p = passed (leb (threshold d) (g ^ 100)) (ltb ((g - 1) ^ 100) (threshold d)) t in
    record { passes = lit≤ p.0; least = λ k h. stops 100 (threshold d) g (lit< p.1) k h }

entry-right : (d n : ℕ) (gs : List ℕ) → T (all_right d n gs) → (i : ℕ) → i < n → T (right (d + i) (get_or gs i 0))
unfolding all_right
entry-right d zero gs t i h = absurd (omega arith)
entry-right d (suc n) [] t i h = absurd t
entry-right d (suc n) (g ∷ gs) t zero h =
    let z : d + 0 ≡ d = omega arith in
    subst (λ (k : ℕ). T (right k g)) (sym z) (passed (right d g) (all_right (suc d) n gs) t).0
entry-right d (suc n) (g ∷ gs) t (suc i) h =
    let z : suc d + i ≡ d + suc i = omega arith in
    subst (λ (k : ℕ). T (right k (get_or gs i 0))) z (entry-right (suc d) n gs (passed (right d g) (all_right (suc d) n gs) t).1 i (omega arith))

-- a table whose entries are right meets the rule
pub table_is : (gs : List ℕ) → T (all_right 0 (suc most_tenths) gs) → TenthsTable gs
table_is gs t = record {
  entry = λ d h. right-smallest d (get_or gs d 0) (subst (λ (k : ℕ). T (right k (get_or gs d 0))) (zero-add d) (entry-right 0 (suc most_tenths) gs t d (omega arith)));
}

-- a right number is the gap of its tenth, and so is each entry of such a table
pub right_is : (d g : ℕ) → T (right d g) → d ≤ most_tenths → g ≡ gap_of_tenths d
right_is d g t h = smallest-unique (right-smallest d g t) (tenths-smallest d h)

pub entry-is : {gs : List ℕ} → TenthsTable gs → (d : ℕ) → d ≤ most_tenths → get_or gs d 0 ≡ gap_of_tenths d
entry-is t d h = smallest-unique (t.entry d h) (tenths-smallest d h)
