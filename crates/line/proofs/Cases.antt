-- Every case of the list holds: one test, computed over the list of rows, that gives a proof of each row that passes.
-- Assumes nothing.
use mathlib.Core.Path.{◌≡◌, refl, sym}
use mathlib.Core.Bool.{Bool, true, false}
use mathlib.Core.List.{List, [], ◌∷◌}
use mathlib.Core.Option.{Option, none, some}
use Prim.Native.Nat.{ℕ, zero, suc, ◌≤◌, ◌<◌}
use native.Mathlib.Decide.{dec_lt, dec_le, ℕ_discrete}
use native.Mathlib.Omega.{arith}
use borrow.Author.Rules.{rules}
use lib.Dec.{T}
use lib.Ieee.{of_bits, div}
use lib.ListN.{length}
use Rattle.steps.specs.Tones.{step, before?, Table, powers, sum, list, total_bits, total_power, sum_of_limits}
use Rattle.steps.specs.Runs.{against, choice, earliest_free, latest_held, Answer, moved, finished, fits?, take_if_fits, give_up_or_take, refit_move, add_step, add_step_to, refit_step, follow, run, most_bits, refit_run, carrying, set_bits}
use Rattle.steps.proofs.SetBits.{too_many}
use Rattle.gaps.specs.Gap.{most_tenths, gap_of_tenths}
use Rattle.gaps.proofs.Rule.{right, right_is}
use Rattle.readings.specs.Reading.{float_of, reading_cost, is_over}
use Rattle.line.specs.declared.Kind.TheVariants.{Pair}
use Rattle.line.specs.declared.SetBy.{SetBy}
use Rattle.line.specs.declared.SetBy.TheVariants.{Silent, Cap, Mask}
use Rattle.line.specs.Tone.{whole_cost, kind_cost, cost, kind_power, largest, limit, set_by}
use Rattle.line.specs.Tries.{tries}
use Rattle.line.specs.Line.{EntryInRange, gap_of, entry_of, LineInRange, set_by_at}
use Rattle.line.specs.Cases.{Case, most, granted, refused, never, refits, costs, reading_costs, over_costs, limits, limits_by, sample_limits, tried, tenths, tone, read_tone, sample, sample_tones, no_rests, Through, CaseHolds, cases}
use Rattle.line.proofs.Loads.{line-rising, no-bits-fit}

-- ---- tests that give a proof where they pass

unfoldable test : {A : Type 0} → Dec A → Option A
test (yes a) = some a
test (no m) = none

unfoldable true? : (b : Bool) → Option (T b)
true? true = some tt
true? false = none

unfoldable both : {A B : Type 0} → Option A → Option B → Option (A × B)
both (some a) (some b) = some (a, b)
both (some a) none = none
both none o = none

unfoldable onward : {A B : Type 0} → (A → B) → Option A → Option B
onward f (some a) = some (f a)
onward f none = none

unfoldable same_bool : (a b : Bool) → Option (a ≡ b)
same_bool true true = some refl
same_bool false false = some refl
same_bool true false = none
same_bool false true = none

unfoldable same : (t u : List ℕ) → Option (t ≡ u)
same [] [] = some refl
same (x ∷ xs) (y ∷ ys) = onward (λ p. join x y xs ys p.0 p.1) (both (test (ℕ_discrete x y)) (same xs ys))
  where
    join : (x y : ℕ) (xs ys : List ℕ) → x ≡ y → xs ≡ ys → x ∷ xs ≡ y ∷ ys
    join x y xs ys p q = cc
same [] (y ∷ ys) = none
same (x ∷ xs) [] = none

unfoldable same_answer : (a b : Answer) → Option (a ≡ b)
same_answer finished finished = some refl
same_answer (moved t) (moved u) = onward (λ e. cc) (same t u)
same_answer finished (moved u) = none
same_answer (moved t) finished = none

unfoldable same_loading : (o p : Option Table) → Option (o ≡ p)
same_loading none none = some refl
same_loading (some t) (some u) = onward (λ e. cc) (same t u)
same_loading none (some u) = none
same_loading (some t) none = none

unfoldable same_set_by : (a b : SetBy) → Option (a ≡ b)
same_set_by Silent Silent = some refl
same_set_by Cap Cap = some refl
same_set_by Mask Mask = some refl
same_set_by Silent Cap = none
same_set_by Silent Mask = none
same_set_by Cap Silent = none
same_set_by Cap Mask = none
same_set_by Mask Silent = none
same_set_by Mask Cap = none

unfoldable through : (rule : Table → Answer) (t : Table) (us : List Table) → Option (Through rule t us)
through rule t [] = same_answer (rule t) finished
through rule t (u ∷ us) = both (same_answer (rule t) (moved u)) (through rule u us)

-- ---- the sample line

sample-in-range : LineInRange (sample no_rests 0)
unfolding kind_cost
sample-in-range = record {
  size_low = omega arith;
  size_high = omega arith;
  gap = record { low = omega arith; high = omega arith };
  budget_high = omega arith;
  entries = entries;
}
  where
    entries : (i : ℕ) → i < 3 → EntryInRange (gap_of (sample no_rests 0)) (entry_of (sample no_rests 0) i)
    entries zero l = search rules
    entries (suc zero) l = search rules
    entries (suc (suc zero)) l = search rules
    entries (suc (suc (suc i))) l = absurd (omega arith)

never-carried : (target : ℕ) → sum_of_limits (sample_tones no_rests) < target → (budget : ℕ) → set_bits (sample_tones no_rests) budget target ≡ none
unfolding sum
never-carried target h budget =
    too_many (sample_tones no_rests) (line-rising (sample no_rests 0) sample-in-range) budget (no-bits-fit (sample no_rests 0) budget (omega arith)) target h

-- ---- a gap in tenths of a decibel

-- that the number is right tells the gap without a search
is-gap : (d g : ℕ) → T (right d g) × (d ≤ most_tenths) → gap_of_tenths d ≡ g
is-gap d g p = sym (right_is d g p.0 p.1)

-- ---- the rows

unfoldable row : (r : Case) → Option (CaseHolds r)
unfolding test true? both onward same_bool same same_answer same_loading same_set_by through
row (most rests budget bits power all_bits all_power) =
    let T = sample_tones rests in
    both (both (same (most_bits T budget).table bits) (same (powers T bits) power))
    (both (test (ℕ_discrete (total_bits T bits) all_bits)) (test (ℕ_discrete (total_power T bits) all_power)))
row (granted rests target budget bits) = same_loading (set_bits (sample_tones rests) budget target) (some bits)
row (refused rests target budget) = same_loading (set_bits (sample_tones rests) budget target) none
row (never target) = onward (never-carried target) (test (dec_lt (sum_of_limits (sample_tones no_rests)) target))
row (refits rests budget start tables) =
    let T = sample_tones rests in
    both (through (refit_step T budget) start tables) (test (ℕ_discrete (refit_run T budget start).moves (length tables)))
row (costs gap noise gain w) = test (ℕ_discrete (cost gap (tone Pair noise gain 0 0)) w)
row (reading_costs gap r w) = both (same_bool (is_over gap r) false) (test (ℕ_discrete (cost gap (read_tone r)) w))
row (over_costs gap r) = same_bool (is_over gap r) true
row (limits w mask b) = test (ℕ_discrete (limit (tone Pair 1 1 15 mask) w) b)
row (limits_by w cap mask b by) =
    both (test (ℕ_discrete (limit (tone Pair 1 1 cap mask) w) b)) (same_set_by (set_by (tone Pair 1 1 cap mask) w) by)
row (sample_limits i b by) = both (test (ℕ_discrete ((sample_tones no_rests).limit i) b)) (same_set_by (set_by_at (sample no_rests 0) i) by)
row (tried kind w cap mask n) = test (ℕ_discrete (tries (tone kind 1 1 cap mask) w) n)
row (tenths d g) = onward (is-gap d g) (both (true? (right d g)) (test (dec_le d most_tenths)))

abbrev pub All : List Case → Type 0
All [] = Unit {0}
All (r ∷ rs) = CaseHolds r × All rs

unfoldable each : (rs : List Case) → Option (All rs)
unfolding both row
each [] = some tt
each (r ∷ rs) = both (row r) (each rs)

-- what a passed test gives
unfoldable passed : {A : Type 0} → Option A → Bool
passed (some a) = true
passed none = false

proof : {A : Type 0} (o : Option A) → T (passed o) → A
unfolding passed
proof (some a) p = a
proof none p = absurd p

pub starred-cases : All cases
unfolding of_bits div cases right test true? both onward same_bool same same_answer same_loading same_set_by through row each passed whole_cost kind_cost kind_power largest limit set_by tries float_of reading_cost is_over step before? sum list against choice earliest_free latest_held fits? take_if_fits give_up_or_take refit_move add_step add_step_to refit_step follow run carrying set_bits dec_lt dec_le ℕ_discrete
starred-cases = proof (each cases) tt
