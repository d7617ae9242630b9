-- A line with chosen noises: its entries, its rests, and its ranges where the noises are inside those of its tones.
-- Assumes nothing.
use mathlib.Core.Bool.{Bool, true, false}
use mathlib.Core.List.{List, [], ◌∷◌}
use mathlib.Core.Path.{◌≡◌, refl, ap}
use Prim.Native.Nat.{ℕ, zero, suc, ◌+◌, ◌*◌, ◌≤◌}
use native.Mathlib.Nat.{le_trans, le_refl, mul-le-mul_left, lt_of_lt_of_le, zero-add}
use native.Mathlib.Omega.{arith}
use lib.ListN.{get_or}
use Rattle.silence.specs.Map.{silenced}
use Rattle.steps.proofs.Sums.{sum-eq}
use Rattle.gaps.specs.Gap.{gap_unit, PartsInRange}
use Rattle.gaps.proofs.Rule.{parts-in-range}
use Rattle.fractions.specs.Ceiling.{ceiling}
use Rattle.fractions.proofs.Ceiling.{Ceiling, ceiling-is}
use Rattle.line.specs.declared.Numbers.{Numbers}
use Rattle.line.specs.declared.Kind.{Kind}
use Rattle.line.specs.declared.Kind.TheVariants.{Pair, Single, Read}
use Rattle.line.specs.declared.Tone.{Tone}
use Rattle.line.specs.Tone.{bounds_of, is_single, whole_cost, kind_cost, cost, Cost, NumbersInRange, KindInRange, noise_of, HighInRange}
use Rattle.line.specs.Line.{Added, Entry, undescribed, described, Line, gap_of, entry_of, entry_rest, rest_of, rest_total, EntryInRange, LineInRange, entry_steps, steps_at}
use Rattle.line.proofs.Costs.{whole-range}
use Rattle.noises.specs.Noises.{numbers_with, kind_with, entry_with, entry_low, entry_high, high_noise, Inside, entries_with, with_noises}

-- ---- its entries

-- of entries from number k on, the one i places further has the noise chosen for k + i
entries_with_lem : (choice : ℕ → ℕ) (k : ℕ) (es : List Entry) (i : ℕ)
    → get_or (entries_with choice k es) i undescribed ≡ entry_with (choice (k + i)) (get_or es i undescribed)
unfolding entries_with
entries_with_lem choice k [] i = refl
entries_with_lem choice k (e ∷ es) zero = let z : k ≡ k + 0 = omega arith in ap (λ (n : ℕ). entry_with (choice n) e) z
entries_with_lem choice k (e ∷ es) (suc i) =
    let z : k + suc i ≡ suc k + i = omega arith in
    rw z (entries_with_lem choice (suc k) es i)

module _ (choice : ℕ → ℕ) (l : Line) where
  -- each entry has its chosen noise
  pub entry-with : (i : ℕ) → entry_of (with_noises choice l) i ≡ entry_with (choice i) (entry_of l i)
  entry-with i = rw zero-add at (entries_with_lem choice 0 l.entries i)

  -- so has what the code finds of a tone
  pub steps-with : (i : ℕ) → steps_at (with_noises choice l) i ≡ entry_steps (gap_of l) (entry_with (choice i) (entry_of l i)) (silenced l.maps i)
  steps-with i = ap (λ (e : Entry). entry_steps (gap_of l) e (silenced l.maps i)) (entry-with i)

-- ---- its rests

-- a rest is the same at every noise
pub same_rest : (noise : ℕ) (e : Entry) (q : Bool) → entry_rest (entry_with noise e) q ≡ entry_rest e q
same_rest noise e true = refl
same_rest noise undescribed false = refl
same_rest noise (described t a) false = refl

-- the rests add up to the same
pub chosen-rests : (choice : ℕ → ℕ) (l : Line) → rest_total (with_noises choice l) ≡ rest_total l
chosen-rests choice l =
    sum-eq l.size (rest_of (with_noises choice l)) (rest_of l)
    (λ i il. rw (entry-with choice l i) (same_rest (choice i) (entry_of l i) (silenced l.maps i)))

-- ---- its ranges

module _ (g : ℕ) (n : Numbers) (I : NumbersInRange n) where
  -- the cost of whole numbers rises with their noise
  pub whole-rises : (low high : ℕ) → low ≤ high → whole_cost g (numbers_with low n) ≤ whole_cost g (numbers_with high n)
  unfolding whole_cost
  whole-rises low high h = (is low).least _ (le_trans (mul-le-mul_left g h) (is high).enough)
    where
      is : (noise : ℕ) → Ceiling (g * noise) (gap_unit * n.gain) (ceiling (g * noise) (gap_unit * n.gain))
      is noise = ceiling-is (g * noise) (gap_unit * n.gain) (omega (arith, I.gain_low))

  -- with a noise of two bytes that is no lower they are in range
  numbers-range : (noise : ℕ) → n.noise ≤ noise → noise ≤ 65535 → NumbersInRange (numbers_with noise n)
  numbers-range noise low h =
      record { noise_low = omega (arith, I.noise_low); noise_high = h; gain_low = I.gain_low; gain_high = I.gain_high }

-- a tone in range of the same kind and bounds, whose cost is no lower, takes the same rest
stands-in : (g : ℕ) (t u : Tone) (a : Added) → is_single u.kind ≡ is_single t.kind → bounds_of u ≡ bounds_of t → cost g t ≤ cost g u
    → KindInRange u.kind → Cost (cost g u) → HighInRange u.kind a.high → EntryInRange g (described t a) → EntryInRange g (described u a)
stands-in g t u a single bounds rises K C H (I, A) = (
  record { kind = K; bounds = record { cap_high = rw (single, bounds) I.bounds.cap_high; mask_high = rw bounds I.bounds.mask_high }; cost = C },
  record { rest = record { below_cost = lt_of_lt_of_le A.rest.below_cost rises; within_mask = rw bounds A.rest.within_mask }; high = H },
)

-- a described tone with a noise inside its range is in range: its cost is no lower
tone-range : (g noise : ℕ) (k : Kind) (a : Added) → PartsInRange g → EntryInRange g (described (record { kind = k }) a)
    → noise_of k ≤ noise → noise ≤ a.high
    → EntryInRange g (described (record { kind = kind_with noise k }) a)
unfolding kind_cost
tone-range g noise (Pair n) a G E low up =
    let N = numbers-range g n E.0.kind noise low (omega (arith, E.1.high.two_bytes)) in
    stands-in g _ _ a refl refl (whole-rises g n E.0.kind n.noise noise low) N (whole-range g (numbers_with noise n) N G)
    (record { at_least = up; two_bytes = E.1.high.two_bytes }) E
tone-range g noise (Single n) a G E low up =
    let N = numbers-range g n E.0.kind noise low (omega (arith, E.1.high.two_bytes)) in
    stands-in g _ _ a refl refl (whole-rises g n E.0.kind n.noise noise low) N (whole-range g (numbers_with noise n) N G)
    (record { at_least = up; two_bytes = E.1.high.two_bytes }) E
tone-range g noise (Read n) a G E low up = E

-- so is an entry, described or not
entry-range : (g noise : ℕ) (e : Entry) → PartsInRange g → EntryInRange g e → entry_low e ≤ noise → noise ≤ entry_high e → EntryInRange g (entry_with noise e)
entry-range g noise undescribed G E low up = E
entry-range g noise (described t a) G E low up = tone-range g noise t.kind a G E low up

-- and so is the line
pub chosen-in-range : (l : Line) → LineInRange l → (choice : ℕ → ℕ) → Inside l choice → LineInRange (with_noises choice l)
chosen-in-range l I choice C = record {
  size_low = I.size_low;
  size_high = I.size_high;
  gap = I.gap;
  budget_high = I.budget_high;
  entries = λ i il. rw (entry-with choice l i)
      (entry-range (gap_of l) (choice i) (entry_of l i) (parts-in-range l.gap I.gap) (I.entries i il) (C.low i il) (C.high i il));
}

-- ---- the high ends

-- no range is empty: its high end is no lower than its low one
low-high : (k : Kind) (high : ℕ) → HighInRange k high → noise_of k ≤ high
low-high (Pair n) high H = H.at_least
low-high (Single n) high H = H.at_least
low-high (Read n) high H = omega arith

entry-low-high : (g : ℕ) (e : Entry) → EntryInRange g e → entry_low e ≤ entry_high e
entry-low-high g undescribed E = omega arith
entry-low-high g (described t a) E = low-high t.kind a.high E.1.high

-- so the high noises are a choice inside the ranges
pub high-inside : (l : Line) → LineInRange l → Inside l (high_noise l)
high-inside l I = record { low = λ i il. entry-low-high (gap_of l) (entry_of l i) (I.entries i il); high = λ i il. le_refl (high_noise l i) }
