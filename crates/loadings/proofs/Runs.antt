-- The runs of loadable tones: their sums fit, the moves that the code allows are enough, one of them is the single step, and what the last
-- step of an adding run answers.
-- Assumes nothing.
use mathlib.Core.Path.{◌≡◌, refl, sym, ◌∙◌}
use Prim.Native.Nat.{ℕ, ◌*◌, ◌^◌, ◌≤◌, ◌<◌}
use native.Mathlib.Decide.{dec_lt}
use native.Mathlib.Nat.{le_of_lt, mul-le-mul_left, le_trans}
use native.Mathlib.Omega.{arith}
use borrow.Author.Tests.{lt-ltb, le-ltb}
use lib.ListN.{length, take}
use Rattle.sizes.specs.Sizes.{most_tones, pair_cap, most_bits_of_all}
use Rattle.steps.specs.Tones.{Tones, Table, ◌!◌, no_bits, total_bits, total_power, sum_of_limits, KeepsLimits}
use Rattle.steps.specs.Runs.{Answer, moved, finished, add_step, Ran, follow, run, most_bits, carrying, set_bits}
use Rattle.steps.proofs.Enough.{moves-at-most, most-bits-enough, set-bits-adds, bits-are-moves}
use Rattle.steps.proofs.Sums.{sum-at-most}
use Rattle.line.specs.Line.{Line, tones, rest_total, LineInRange}
use Rattle.line.specs.Arrays.{Arrays, limit_at, doublings_at, RestsInRange, PowersInRange, ArraysOf}
use Rattle.line.proofs.Powers.{power-high}
use Rattle.line.proofs.Arrays.{stands-under, limit-small, shift-under, front-sized, front-in-range, front-describes}
use Rattle.line.proofs.Loads.{line-rising, no-bits-fit}
use Rattle.running.specs.declared.Running.{Running}
use Rattle.running.specs.declared.Progress.{Progress}
use Rattle.running.specs.declared.Progress.TheVariants.{Moved, Finished}
use Rattle.running.specs.Running.{Stands, Runnable}
use Rattle.wholeruns.specs.WholeRuns.{progress_after}
use Rattle.starts.specs.Starts.{StartsAtNone}
use Rattle.loadings.specs.Loads.{Loadable}
use Rattle.loadings.specs.Refits.{stepped}

-- ---- sums

module _ {count budget : ℕ} {A : Arrays} {T : Tones} (L : Loadable count budget A T) where
  few : T.count ≤ most_tones
  few = omega (arith, L.in_range.count_high, L.describes.same_count)

  inside : (i : ℕ) → i < T.count → i < count
  inside i il = omega (arith, L.describes.same_count)

  -- no line's limits add up to more
  pub limits-high : sum_of_limits T ≤ most_bits_of_all
  limits-high = omega (arith, few, sum-at-most T.count pair_cap T.limit high)
    where
      high : (i : ℕ) → i < T.count → T.limit i ≤ pair_cap
      high i il = rw (L.describes.same_limit i (inside i il)) (limit-small L.in_range i (inside i il))

  low-power : (i b : ℕ) → i < T.count → b ≤ T.limit i → T.power i b ≤ 2 ^ 39
  low-power i b il bl =
      let k = inside i il in
      let I = L.in_range in
      let under : b ≤ limit_at A i = omega (arith, L.describes.same_limit i k) in
      let shift : doublings_at A i * b ≤ 15 = le_trans (mul-le-mul_left (doublings_at A i) under) (I.shift_high i k) in
      rw (L.describes.same_power i b k bl) (le_of_lt (power-high _ _ _ b (I.cost_high i k) shift (I.rest_high i k)))

  -- no total power comes near 2^62
  pub bounded : (u : Table) → KeepsLimits T u → total_power T u < 2 ^ 62
  bounded u w = omega (arith, few, sum-at-most T.count (2 ^ 39) (λ i. T.power i (u ! i)) (λ i il. low-power i (u ! i) il (w.under i il)))

  -- a run may go on from a running table that stands for a table of T
  pub runnable : {r : Running} {t : Table} → Stands count A r T t → Runnable count A r
  runnable {t = t} S = record { tones = T; table = t; in_range = L.in_range; stands = S; bounded = bounded }

  -- the running table of no bits
  pub none-stands : {r : Running} → StartsAtNone count A r → Stands count A r T (no_bits T)
  none-stands h = h T L.describes L.rising

  -- the rests of the tones are in range
  pub rests-high : RestsInRange count A
  rests-high = record { rest_high = L.in_range.rest_high }

  -- the powers of a running table that stands for a table of T are in range
  pub writable : {r : Running} {t : Table} → Stands count A r T t → PowersInRange count A r.bits
  writable S =
      let I = L.in_range in
      record { cost_high = I.cost_high; shift_high = shift-under I (stands-under S.table); rest_high = I.rest_high }

  -- ---- enough moves

  most-run : run (add_step T budget) most_bits_of_all (no_bits T) ≡ most_bits T budget
  most-run = most-bits-enough T L.rising budget L.none_fits most_bits_of_all limits-high

  -- what stands for the table of that run stands for the one of most bits
  pub most-stands : {r : Running} → Stands count A r T (run (add_step T budget) most_bits_of_all (no_bits T)).table → Stands count A r T (most_bits T budget).table
  most-stands S = rw most-run at S

  pub target_run : (target : ℕ) → set_bits T budget target ≡ carrying T target (run (add_step T budget) target (no_bits T)).table
  target_run = set-bits-adds T L.rising budget L.none_fits

-- ---- the tones of a line

-- those of a line in range are loadable within any budget that its rests keep, from the front of its array
pub line-loadable : (l : Line) → LineInRange l → (budget : ℕ) → rest_total l ≤ budget → {A : Arrays} → ArraysOf l A
    → Loadable (length (take l.size A)) budget (take l.size A) (tones l)
line-loadable l I budget fits {A} h = rw (front-sized l I A h) (record {
  in_range = front-in-range l I A h;
  describes = front-describes l I A h;
  rising = line-rising l I;
  none_fits = no-bits-fit l budget fits;
})

-- ---- what the last step of a run answers

-- 'finished' if the run made fewer moves than it might, else 'moved'
fewer : (made most : ℕ) → progress_after made most ≡ Finished → made < most
fewer made most e = go (dec_lt made most)
  where
    go : Dec (made < most) → made < most
    go (yes h) = h
    go (no n) =
        let w : Moved ≡ Finished = rw (le-ltb made most (omega arith)) at e in
        absurd (let z : ◌≡◌ {A = ℕ} 0 1 = cc in omega arith)

all : (made most : ℕ) → progress_after made most ≡ Moved → most ≤ made
all made most e = go (dec_lt made most)
  where
    go : Dec (made < most) → most ≤ made
    go (no n) = omega arith
    go (yes h) =
        let w : Finished ≡ Moved = rw (lt-ltb made most h) at e in
        absurd (let z : ◌≡◌ {A = ℕ} 0 1 = cc in omega arith)

-- the run that adds the target's bits carries them exactly if its last step moved
module _ {count budget : ℕ} {A : Arrays} {T : Tones} (L : Loadable count budget A T) (target : ℕ) where
  adding : Ran
  adding = run (add_step T budget) target (no_bits T)

  bits : total_bits T adding.table ≡ adding.moves
  unfolding adding
  bits = bits-are-moves T L.rising budget L.none_fits target

  pub carried-by : {p : Progress} → p ≡ progress_after (run (add_step T budget) target (no_bits T)).moves target → p ≡ Moved → total_bits T (run (add_step T budget) target (no_bits T)).table ≡ target
  unfolding adding
  carried-by e f = omega (arith, bits, all adding.moves target (sym e ∙ f), moves-at-most (add_step T budget) target (no_bits T))

  pub missed_by : {p : Progress} → p ≡ progress_after (run (add_step T budget) target (no_bits T)).moves target → p ≡ Finished → ¬ (total_bits T (run (add_step T budget) target (no_bits T)).table ≡ target)
  unfolding adding
  missed_by e f q = omega (arith, bits, fewer adding.moves target (sym e ∙ f))

-- ---- the single step

pub one-move : (rule : Table → Answer) (t : Table) → run rule 1 t ≡ stepped t (rule t)
unfolding run follow
one-move rule t = by (rule t)
  where
    by : (a : Answer) → follow (run rule 0) t a ≡ stepped t a
    by finished = refl
    by (moved u) = refl
