-- The runs. Document 01, 'The loading runs'.
-- Assumes nothing.
use Rattle.std.proofs.Math.Logic.{ite}
use Rattle.std.proofs.Math.Option.{Option, none, some}
use Rattle.std.specs.Prelude.{ℕ, zero, suc, ◌+◌, ◌-◌, ◌≤◌, set}
use Rattle.std.proofs.Math.Decide.{dec_le, dec_lt, ℕ_discrete}
use Rattle.steps.specs.Tones.{Tones, step, before?, Table, ◌!◌, no_bits, total_bits, total_power, sum_of_limits}

-- Of the first n tones, the one that has a step and whose step no other's beats.
module _ {has : ℕ → Type 0} {beats : ℕ → ℕ → Type 0} (has? : (i : ℕ) → Dec (has i)) (beats? : (i j : ℕ) → Dec (beats i j)) where
  -- tone n, which has a step, against the choice among the tones before it
  unfoldable pub against : ℕ → Option ℕ → Option ℕ
  against n none = some n
  against n (some i) = ite (beats? n i) (some n) (some i)

  unfoldable pub choice : ℕ → Option ℕ
  choice zero = none
  choice (suc n) = ite (has? n) (against n (choice n)) (choice n)

-- The tone of the earliest free step. A tone's own earliest free step is the one at its present bits.
unfoldable pub earliest_free : Tones → Table → Option ℕ
earliest_free T t =
    choice (λ i. dec_lt (t ! i) (T.limit i)) (λ i j. before? T i (t ! i) j (t ! j)) T.count

-- The tone of the latest held step. A tone's own latest held step is the one at a bit fewer than it has.
unfoldable pub latest_held : Tones → Table → Option ℕ
latest_held T t =
    choice (λ i. dec_lt 0 (t ! i)) (λ i j. before? T j (t ! j - 1) i (t ! i - 1)) T.count

-- take the earliest free step of tone f; give up the latest held step of tone h
abbrev pub taking : Table → ℕ → Table
taking t f = set t f (suc (t ! f))

abbrev pub giving_up : Table → ℕ → Table
giving_up t h = set t h (t ! h - 1)

-- A step of a rule answers 'moved', with the table that it leaves, or 'finished'.
pub data Answer : Type 0 where
  moved : Table → Answer
  finished : Answer

module _ (T : Tones) (budget : ℕ) (t : Table) where
  -- the step of tone f fits: with it 'the total stays within the budget'
  abbrev pub Fits : ℕ → Type 0
  Fits f = total_power T t + step T f (t ! f) ≤ budget

  unfoldable pub fits? : (f : ℕ) → Dec (Fits f)
  fits? f = dec_le (total_power T t + step T f (t ! f)) budget

  -- 'if f exists and fits: take f. Otherwise: finished, nothing moved'
  unfoldable pub take_if_fits : Option ℕ → Answer
  unfolding fits?
  take_if_fits none = finished
  take_if_fits (some f) = ite (fits? f) (moved (taking t f)) finished

  -- 'if the total is above the budget: give up h. Otherwise' as above
  unfoldable pub give_up_or_take : ℕ → Option ℕ → Answer
  unfolding take_if_fits
  give_up_or_take h f = ite (dec_lt budget (total_power T t)) (moved (giving_up t h)) (take_if_fits f)

  -- 'If both exist and f comes before h: give up h and take f. Otherwise' as above. With no held step there is none to give up.
  unfoldable pub refit_move : Option ℕ → Option ℕ → Answer
  unfolding take_if_fits give_up_or_take
  refit_move none f = take_if_fits f
  refit_move (some h) none = give_up_or_take h none
  refit_move (some h) (some f) =
      ite (before? T f (t ! f) h (t ! h - 1)) (moved (taking (giving_up t h) f)) (give_up_or_take h (some f))

-- 'Take the earliest free step while the total stays within the budget.'
unfoldable pub add_step : Tones → (budget : ℕ) → Table → Answer
unfolding take_if_fits earliest_free
add_step T budget t = take_if_fits T budget t (earliest_free T t)

-- 'The same, stopped when the table carries the target.'
unfoldable pub add_step_to : Tones → (budget target : ℕ) → Table → Answer
unfolding add_step
add_step_to T budget target t = ite (dec_lt (total_bits T t) target) (add_step T budget t) finished

-- 'Let h be the latest held step and f the earliest free one.'
unfoldable pub refit_step : Tones → (budget : ℕ) → Table → Answer
unfolding refit_move earliest_free latest_held
refit_step T budget t = refit_move T budget t (latest_held T t) (earliest_free T t)

-- A run makes the moves of a rule until it answers 'finished', or until it has made k, and counts them.
pub record Ran : Type 0 where
  pub table : Table
  pub moves : ℕ

unfoldable pub follow : (Table → Ran) → Table → Answer → Ran
follow go t finished = record { table = t; moves = 0 }
follow go t (moved u) = record { table = (go u).table; moves = suc (go u).moves }

unfoldable pub run : (Table → Answer) → ℕ → Table → Ran
unfolding follow
run rule zero t = record { table = t; moves = 0 }
run rule (suc k) t = follow (run rule k) t (rule t)

-- 'Most bits', from no bits. As many moves as the limits add up to are enough: `adding-ends` of proofs/Demand3.antt.
abbrev pub most_bits : Tones → (budget : ℕ) → Ran
most_bits T budget = run (add_step T budget) (sum_of_limits T) (no_bits T)

-- 'Re-fit run. Steps until finished; it reports how many moved.' As many moves are enough here too: `refit-ends`.
abbrev pub refit_run : Tones → (budget : ℕ) → Table → Ran
refit_run T budget t = run (refit_step T budget) (sum_of_limits T) t

-- 'Set number of bits': the table of the run, or none where it does not carry the target (refusal 11).
unfoldable pub carrying : Tones → (target : ℕ) → Table → Option Table
carrying T target t = ite (ℕ_discrete (total_bits T t) target) (some t) none

unfoldable pub set_bits : Tones → (budget target : ℕ) → Option Table
unfolding carrying
set_bits T budget target = carrying T target (run (add_step_to T budget target) (sum_of_limits T) (no_bits T)).table
