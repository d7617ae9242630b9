-- The law behind the guarded loading, for any two lines that differ in noise only: cost rises with noise, so limits fall and powers rise. Said
-- once, for both kinds.
-- Assumes nothing.
use mathlib.Core.Bool.{Bool, true, false}
use mathlib.Core.Path.{◌≡◌, refl, sym, ap, ◌∙◌}
use Prim.Native.Nat.{ℕ, zero, suc, ◌-◌, ◌^◌, ◌≤◌, ◌<◌}
use native.Mathlib.Nat.{le_trans, mul-le-mul_right}
use native.Mathlib.Omega.{arith}
use Rattle.silence.specs.Map.{silenced}
use Rattle.steps.specs.Tones.{Tones, Table, ◌!◌, sum, total_power, KeepsLimits}
use Rattle.steps.proofs.Sums.{sum-le}
use Rattle.line.specs.declared.Kind.{Kind}
use Rattle.line.specs.declared.Kind.TheVariants.{Pair, Single, Read}
use Rattle.line.specs.declared.Tone.{Tone}
use Rattle.line.specs.Tone.{KindInRange, kind_cost, cost, kind_power, power, limit}
use Rattle.line.specs.Line.{Entry, undescribed, described, Line, gap_of, entry_of, entry_limit, entry_power, tones, EntryInRange, LineInRange}
use Rattle.line.proofs.Limits.{limit_is}
use Rattle.noises.specs.Noises.{kind_with, with_noise, entry_with, with_noises}
use Rattle.noises.specs.Claims.{Dearer}
use Rattle.noises.proofs.Chosen.{entry-with, same_rest, whole-rises}

-- ---- one tone

-- the cost of a tone rises with its noise; that of one with a reading stays
kind-rises : (g : ℕ) (k : Kind) (low high : ℕ) → KindInRange k → low ≤ high → kind_cost g (kind_with low k) ≤ kind_cost g (kind_with high k)
unfolding kind_cost
kind-rises g (Pair n) low high I h = whole-rises g n I low high h
kind-rises g (Single n) low high I h = whole-rises g n I low high h
kind-rises g (Read n) low high I h = omega arith

pub cost-rises : (g : ℕ) (t : Tone) (low high : ℕ) → KindInRange t.kind → low ≤ high → cost g (with_noise low t) ≤ cost g (with_noise high t)
cost-rises g t = kind-rises g t.kind

-- powers rise with the cost
kind-power : (k : Kind) (b v w : ℕ) → v ≤ w → kind_power k v b ≤ kind_power k w b
unfolding kind_power
kind-power (Pair n) b v w h = mul-le-mul_right (2 ^ b - 1) h
kind-power (Single n) b v w h = mul-le-mul_right (4 ^ b - 1) h
kind-power (Read n) b v w h = mul-le-mul_right (2 ^ b - 1) h

pub power-rises : (t : Tone) (b v w : ℕ) → v ≤ w → power t v b ≤ power t w b
power-rises t = kind-power t.kind

-- so the limit falls: what is within the mask at a cost is within it at a lower one
pub limit-falls : (t : Tone) (v w : ℕ) → v ≤ w → limit t w ≤ limit t v
limit-falls t v w h = (limit_is t v).most (limit t w) (limit_is t w).at_most (le_trans (power-rises t (limit t w) v w h) (limit_is t w).passes)

-- at one cost, power and limit are the same at every noise
kind-same-power : (noise : ℕ) (k : Kind) (w b : ℕ) → kind_power (kind_with noise k) w b ≡ kind_power k w b
unfolding kind_power
kind-same-power noise (Pair n) w b = refl
kind-same-power noise (Single n) w b = refl
kind-same-power noise (Read n) w b = refl

kind-same-limit : (noise : ℕ) (k : Kind) (w : ℕ) → limit (record { kind = kind_with noise k }) w ≡ limit (record { kind = k }) w
unfolding limit kind_power
kind-same-limit noise (Pair n) w = refl
kind-same-limit noise (Single n) w = refl
kind-same-limit noise (Read n) w = refl

-- ---- one entry, silenced or not

module _ (g low high : ℕ) (h : low ≤ high) where
  -- its limit falls as its noise rises
  entry-falls : (e : Entry) (q : Bool) → EntryInRange g e → entry_limit g (entry_with high e) q ≤ entry_limit g (entry_with low e) q
  entry-falls e true I = omega arith
  entry-falls undescribed false I = omega arith
  entry-falls (described t a) false I =
      rw (kind-same-limit high t.kind, kind-same-limit low t.kind) (limit-falls t _ _ (cost-rises g t low high I.0.kind h))

  -- and its powers rise; its rest stays
  entry-rises : (e : Entry) (q : Bool) (b : ℕ) → EntryInRange g e → entry_power g (entry_with low e) q b ≤ entry_power g (entry_with high e) q b
  entry-rises e q zero I = omega (arith, same_rest low e q, same_rest high e q)
  entry-rises undescribed q (suc b) I = omega arith
  entry-rises (described t a) q (suc b) I =
      rw (kind-same-power high t.kind, kind-same-power low t.kind) (power-rises t (suc b) _ _ (cost-rises g t low high I.0.kind h))

-- ---- a line

-- with noises that are no lower its tones are dearer
pub dearer : (l : Line) → LineInRange l → (lower higher : ℕ → ℕ) → ((i : ℕ) → i < l.size → lower i ≤ higher i)
    → Dearer (tones (with_noises lower l)) (tones (with_noises higher l))
dearer l I lower higher h = record {
  same_count = refl;
  limits_fall = λ i il. rw (entry-with lower l i, entry-with higher l i)
      (entry-falls (gap_of l) (lower i) (higher i) (h i il) (entry_of l i) (silenced l.maps i) (I.entries i il));
  powers_rise = λ i b il. rw (entry-with lower l i, entry-with higher l i)
      (entry-rises (gap_of l) (lower i) (higher i) (h i il) (entry_of l i) (silenced l.maps i) b (I.entries i il));
}

-- ---- tables of dearer tones

module _ (T U : Tones) (D : Dearer T U) (t : Table) where
  -- a table that keeps the limits of the dearer tones keeps the others'
  pub keeps-cheaper : KeepsLimits U t → KeepsLimits T t
  keeps-cheaper K = record {
    sized = K.sized ∙ sym D.same_count;
    under = λ i il. le_trans (K.under i (omega (arith, D.same_count))) (D.limits_fall i il);
  }

  -- and it has no more power on the others
  pub power-cheaper : total_power T t ≤ total_power U t
  power-cheaper =
      omega (arith, sum-le T.count _ _ (λ i il. D.powers_rise i (t ! i) il), ap (λ (n : ℕ). sum n (λ i. U.power i (t ! i))) D.same_count)
