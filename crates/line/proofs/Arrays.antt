-- What the arrays of a line tell of its tones: their ranges, limits and powers; and the table of no bits beside them.
-- Assumes nothing.
use mathlib.Core.Path.{◌≡◌, refl, sym, ap, ◌∙◌, subst}
use mathlib.Core.Bool.{Bool, true, false}
use mathlib.Core.List.{List}
use Prim.Native.Nat.{ℕ, suc, ◌*◌, ◌^◌, ◌≤◌, ◌<◌}
use native.Mathlib.Decide.{dec_lt}
use native.Mathlib.Nat.{mul-le-mul_left, mul-le-mul_right, le_trans}
use native.Mathlib.Omega.{arith}
use lib.ListN.{length, get_or, take, replicate, length-replicate}
use Rattle.std.proofs.lemmas.List.{length-take-le, get_or-take}
use Rattle.sizes.specs.Sizes.{most_tones, pair_cap, most_bits_of_all}
use Rattle.lists.proofs.Stores.{all_same}
use Rattle.silence.specs.Map.{silenced}
use Rattle.steps.specs.Tones.{Tones, step, Rising, Table, ◌!◌, no_bits, sum, total_bits, total_power}
use Rattle.steps.proofs.Sums.{sum-at-most, sum-eq}
use Rattle.line.specs.declared.Limit.{Limit}
use Rattle.line.specs.declared.Steps.{Steps}
use Rattle.line.specs.Tone.{cost, limit}
use Rattle.line.specs.Line.{Entry, undescribed, described, Line, gap_of, entry_of, entry_limit, entry_set_by, tones, EntryInRange, LineInRange, no_steps, entry_steps, steps_at}
use Rattle.line.specs.Arrays.{Arrays, steps_in, limit_at, cost_at, doublings_at, rest_at, power_in, step_size, StepsRise, ArraysInRange, Under, Describes, StandsFor, ArraysOf}
use Rattle.line.proofs.Growth.{doublings-low, shift-at-most}
use Rattle.line.proofs.Limits.{limit_is}
use Rattle.line.proofs.Loads.{line-power}

-- ---- the arrays of a line

-- the ranges of what the runs need of one tone
record Small (s : Steps) : Type 0 where
  steps_rise : 0 < s.limit.bits → StepsRise s.cost s.doublings s.rest
  cost_high : s.cost < 2 ^ 24
  shift_high : s.doublings * s.limit.bits ≤ 15
  rest_high : s.rest < 2 ^ 24

none-small : Small no_steps
none-small = record { steps_rise = λ h. absurd (omega arith); cost_high = omega arith; shift_high = omega arith; rest_high = omega arith }

small : (g : ℕ) (e : Entry) (q : Bool) → EntryInRange g e → Small (entry_steps g e q)
small g e true I = none-small
small g undescribed false I = none-small
small g (described t a) false I =
    let w = cost g t in
    record {
      steps_rise = λ h. record { doubles = doublings-low t.kind; rest_low = I.1.rest.below_cost };
      cost_high = omega (arith, I.0.cost.high);
      shift_high = shift-at-most t (limit t w) (limit_is t w).at_most I.0.bounds;
      rest_high = omega (arith, I.1.rest.below_cost, I.0.cost.high);
    }

-- the limit with what set it
pub limit-same : (g : ℕ) (e : Entry) (q : Bool) → (entry_steps g e q).limit ≡ record { bits = entry_limit g e q; by = entry_set_by g e q }
limit-same g e true = refl
limit-same g undescribed false = refl
limit-same g (described t a) false = refl

-- the array of a line, whole: its ranges, and that it describes the tones
module _ (l : Line) (I : LineInRange l) (A : Arrays) (h : ArraysOf l A) where
  pub line-arrays-in-range : ArraysInRange l.size A
  line-arrays-in-range = record {
    count_high = I.size_high;
    steps_rise = λ i il. (at i il).steps_rise;
    cost_high = λ i il. (at i il).cost_high;
    shift_high = λ i il. (at i il).shift_high;
    rest_high = λ i il. (at i il).rest_high;
  }
    where
      at : (i : ℕ) → i < l.size → Small (steps_in A i)
      at i il = subst Small (sym (h.agree i)) (small (gap_of l) (entry_of l i) (silenced l.maps i) (I.entries i il))

  pub line-describes : Describes l.size A (tones l)
  line-describes = record {
    same_count = refl;
    same_limit = λ i il. sym (ap (λ (s : Steps). s.limit.bits) (h.agree i) ∙ ap (λ (x : Limit). x.bits) (limit-same (gap_of l) (entry_of l i) (silenced l.maps i)));
    same_power = λ i b il bl. line-power l I i b bl ∙ ap (λ (s : Steps). power_in s.cost s.doublings s.rest b) (sym (h.agree i));
  }

-- the front of it, which has its N tones and which the runs go by
module _ (l : Line) (I : LineInRange l) (A : Arrays) (h : ArraysOf l A) where
  whole : ArraysInRange l.size A
  whole = line-arrays-in-range l I A h

  tells : Describes l.size A (tones l)
  tells = line-describes l I A h

  same-steps : (i : ℕ) → i < l.size → steps_in (take l.size A) i ≡ steps_in A i
  same-steps i il = get_or-take l.size A i no_steps il

  pub front-sized : length (take l.size A) ≡ l.size
  front-sized = length-take-le l.size A (omega (arith, I.size_high, h.sized))

  pub front-in-range : ArraysInRange l.size (take l.size A)
  front-in-range = record {
    count_high = whole.count_high;
    steps_rise = λ i il. (at i il).steps_rise;
    cost_high = λ i il. (at i il).cost_high;
    shift_high = λ i il. (at i il).shift_high;
    rest_high = λ i il. (at i il).rest_high;
  }
    where
      here : (i : ℕ) → i < l.size → Small (steps_in A i)
      here i il = record { steps_rise = whole.steps_rise i il; cost_high = whole.cost_high i il; shift_high = whole.shift_high i il; rest_high = whole.rest_high i il }

      at : (i : ℕ) → i < l.size → Small (steps_in (take l.size A) i)
      at i il = subst Small (sym (same-steps i il)) (here i il)

  pub front-describes : Describes l.size (take l.size A) (tones l)
  front-describes = record {
    same_count = tells.same_count;
    same_limit = λ i il. tells.same_limit i il ∙ ap (λ (s : Steps). s.limit.bits) (sym (same-steps i il));
    same_power = λ i b il bl. tells.same_power i b il bl ∙ ap (λ (s : Steps). power_in s.cost s.doublings s.rest b) (sym (same-steps i il));
  }

-- ---- any arrays that describe tones

module _ {count : ℕ} {A : Arrays} {T : Tones} (D : Describes count A T) where
  -- steps below the limits
  pub same_step : (i b : ℕ) → i < count → b < T.limit i → step T i b ≡ step_size (cost_at A i) (doublings_at A i) (rest_at A i) b
  unfolding step
  same_step i b il bl = rw (D.same_power i (suc b) il bl, D.same_power i b il (omega arith))

  -- no bits beside them stand for the table of no bits
  pub no-bits-stand : Rising T → StandsFor count A (replicate most_tones 0) T (no_bits T)
  no-bits-stand R = record {
    describes = D;
    rising = R;
    within = record { sized = length-replicate T.count 0; under = λ i il. omega (arith, none i) };
    same_bits = λ i il. none i ∙ sym (all_same most_tones i 0);
  }
    where
      none : (i : ℕ) → no_bits T ! i ≡ 0
      none i = all_same T.count i 0

  -- the table of no bits has the rests for its power
  pub no-bits-power : total_power T (no_bits T) ≡ sum count (rest_at A)
  no-bits-power =
      sum-eq T.count (λ i. T.power i (no_bits T ! i)) (rest_at A) (λ i il. power i (omega (arith, D.same_count)))
      ∙ ap (λ (n : ℕ). sum n (rest_at A)) D.same_count
    where
      power : (i : ℕ) → i < count → T.power i (no_bits T ! i) ≡ rest_at A i
      power i il = ap (T.power i) (all_same T.count i 0) ∙ D.same_power i 0 il (omega arith)

-- ---- tables beside arrays

-- a tone that takes bits has a doubling, so its limit is at most 15
pub limit-small : {count : ℕ} {A : Arrays} → ArraysInRange count A → (i : ℕ) → i < count → limit_at A i ≤ pair_cap
limit-small {A = A} R i il = by (dec_lt 0 (limit_at A i))
  where
    by : Dec (0 < limit_at A i) → limit_at A i ≤ pair_cap
    by (no m) = omega arith
    by (yes q) = omega (arith, R.shift_high i il, mul-le-mul_right (limit_at A i) (R.steps_rise i il q).doubles)

module _ {count : ℕ} {A : Arrays} {bits : List ℕ} {T : Tones} {t : Table} (S : StandsFor count A bits T t) where
  pub stands-under : Under count A bits
  stands-under = record { under = λ i il. omega (arith, S.same_bits i il, S.within.under i (omega (arith, S.describes.same_count)), S.describes.same_limit i il) }

  -- no table beside the arrays carries more bits
  pub bits-high : ArraysInRange count A → total_bits T t ≤ most_bits_of_all
  bits-high R =
      let n = S.describes.same_count in
      omega (arith, n, R.count_high, sum-at-most T.count pair_cap (◌!◌ t) (λ i il. high i (omega arith)))
    where
      high : (i : ℕ) → i < count → t ! i ≤ pair_cap
      high i il = omega (arith, S.same_bits i il, stands-under.under i il, limit-small R i il)

-- bits under the limits keep the shifts in range
pub shift-under : {count : ℕ} {A : Arrays} {bits : List ℕ} → ArraysInRange count A → Under count A bits → (i : ℕ) → i < count → doublings_at A i * get_or bits i 0 ≤ 15
shift-under {count} {A} R U i il = le_trans (mul-le-mul_left (doublings_at A i) (U.under i il)) (R.shift_high i il)
