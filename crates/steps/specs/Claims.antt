-- What is proved of the runs: demand 3, and the loading of a set number of bits.
-- Assumes nothing.
use Rattle.std.specs.Prelude.{◌≡◌, ℕ, suc, ◌+◌, ◌≤◌, ◌<◌}
use Rattle.std.proofs.Math.Option.{Option, none, some}
use Rattle.steps.specs.Tones.{Tones, step, Before, Table, no_bits, Held, Free, powers, total_bits, total_power, sum_of_limits, KeepsLimits, KeepsBudget}
use Rattle.steps.specs.Runs.{Answer, moved, finished, add_step, refit_step, most_bits, refit_run}

-- Efficient: every held step comes before every free one.
pub record Efficient (T : Tones) (t : Table) : Type 0 where
  pub sorted : {i b j c : ℕ} → Held T t i b → Free T t j c → Before T i b j c

-- E-tight: the budget is kept, and every free step would break it.
pub record ETight (T : Tones) (budget : ℕ) (t : Table) : Type 0 where
  pub fits : KeepsBudget T budget t
  pub full : {j c : ℕ} → Free T t j c → budget < total_power T t + step T j c

-- Where the runs end: within the limits, efficient and E-tight.
pub record Final (T : Tones) (budget : ℕ) (t : Table) : Type 0 where
  pub within : KeepsLimits T t
  pub efficient : Efficient T t
  pub tight : ETight T budget t

-- No table within limits and budget carries more bits, or as many for less power.
pub record Best (T : Tones) (budget : ℕ) (t : Table) : Type 0 where
  pub most : (u : Table) → KeepsLimits T u → KeepsBudget T budget u → total_bits T u ≤ total_bits T t
  pub least : (u : Table) → KeepsLimits T u → KeepsBudget T budget u → total_bits T u ≡ total_bits T t → total_power T t ≤ total_power T u

-- From t the rule answers 'moved' exactly n times up to the first 'finished', and u is the table it leaves.
pub data Moves (rule : Table → Answer) : (n : ℕ) → (t u : Table) → Type 0 where
  none_left : {t : Table} → rule t ≡ finished → Moves rule 0 t t
  one_more : {n : ℕ} {t s u : Table} → rule t ≡ moved s → Moves rule n s u → Moves rule (suc n) t u

-- Demand 3, of one starting table t: adding from nothing and re-fitting from t, as two whole runs.
pub record Demand3 (T : Tones) (budget : ℕ) (t : Table) : Type 0 where
  pub same_table : (refit_run T budget t).table ≡ (most_bits T budget).table
  pub same_powers : powers T (refit_run T budget t).table ≡ powers T (most_bits T budget).table
  pub same_bits : total_bits T (refit_run T budget t).table ≡ total_bits T (most_bits T budget).table
  pub same_power : total_power T (refit_run T budget t).table ≡ total_power T (most_bits T budget).table
  pub limits : KeepsLimits T (refit_run T budget t).table
  pub budget_kept : KeepsBudget T budget (refit_run T budget t).table
  pub best : Best T budget (refit_run T budget t).table
  pub added : Moves (add_step T budget) (most_bits T budget).moves (no_bits T) (most_bits T budget).table
  pub counted : Moves (refit_step T budget) (refit_run T budget t).moves t (refit_run T budget t).table
  pub bounded : (refit_run T budget t).moves ≤ sum_of_limits T

-- A set number of bits: the table carries the target within limits and budget, at the least power of all that carry it;
-- and none is given exactly where no table within limits and budget carries the target.
pub record Carries (T : Tones) (budget target : ℕ) (t : Table) : Type 0 where
  pub within : KeepsLimits T t
  pub fits : KeepsBudget T budget t
  pub exact : total_bits T t ≡ target

pub record Cheapest (T : Tones) (budget target : ℕ) (t : Table) : Type 0 where
  pub carries : Carries T budget target t
  pub least : (u : Table) → KeepsLimits T u → total_bits T u ≡ target → total_power T t ≤ total_power T u

abbrev pub SetBits : (T : Tones) (budget target : ℕ) → Option Table → Type 0
SetBits T budget target (some t) = Cheapest T budget target t
SetBits T budget target none = (u : Table) → ¬ Carries T budget target u
