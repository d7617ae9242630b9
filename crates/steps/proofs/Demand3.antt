-- Both runs end in the final table, whatever the start: demand 3 as one theorem over the two whole runs.
-- Assumes nothing.
use mathlib.Core.Path.{◌≡◌, refl, ap}
use Prim.Native.Nat.{ℕ, suc, ◌-◌, ◌<◌}
use native.Mathlib.Omega.{arith}
use lib.ListN.{length-replicate, get_or-replicate}
use Rattle.steps.specs.Tones.{Tones, Rising, Table, ◌!◌, no_bits, powers, total_bits, total_power, sum_of_limits, KeepsLimits, KeepsBudget}
use Rattle.steps.specs.Runs.{Answer, moved, finished, add_step, refit_step, run, most_bits, refit_run}
use Rattle.steps.specs.Claims.{Efficient, Final, Demand3}
use Rattle.steps.proofs.Changes.{total-taking, bits-taking, efficient-taking}
use Rattle.steps.proofs.Rule.{Move, exchange, give_up, take_one, Did, refit_step-is, add_step-is}
use Rattle.steps.proofs.Final.{final-unique, final-best}
use Rattle.steps.proofs.Left.{Left, no-exchange, one_fewer, at-most-limits}
use Rattle.steps.proofs.Run.{Ends, run_ends}

module _ (T : Tones) (budget : ℕ) where
  -- what holds between the moves of a re-fit: at most n are left
  pub record Refitting (n : ℕ) (t : Table) : Type 0 where
    pub within : KeepsLimits T t
    pub left : Left T budget n t

  -- what holds between the steps that add
  pub record Adding (n : ℕ) (t : Table) : Type 0 where
    pub within : KeepsLimits T t
    pub efficient : Efficient T t
    pub fits : KeepsBudget T budget t
    pub left : Left T budget n t

module _ (T : Tones) (R : Rising T) (budget : ℕ) (base : KeepsBudget T budget (no_bits T)) where
  -- ---- re-fitting

  -- Finished means final: 'finished' is answered in a final table, and in no other.
  pub finished-final : {t : Table} → KeepsLimits T t → refit_step T budget t ≡ finished → Final T budget t
  finished-final w e = rw e at (refit_step-is T R budget w base)

  no_move : {t u : Table} → Final T budget t → ¬ Move T budget t u
  no_move F (exchange E H q) = no-exchange T R budget F.efficient E H q
  no_move F (give_up H s q) = omega (arith, F.tight.fits)
  no_move F (take_one E s q) = omega (arith, F.tight.full E.free)

  pub final-finished : {t : Table} → Final T budget t → refit_step T budget t ≡ finished
  final-finished {t} F = go (refit_step T budget t) (refit_step-is T R budget F.within base)
    where
      go : (a : Answer) → Did T budget t a → a ≡ finished
      go finished h = refl
      go (moved u) m = absurd (no_move F m)

  refit-moves : (n : ℕ) (t u : Table) → Refitting T budget n t → refit_step T budget t ≡ moved u → (0 < n) × Refitting T budget (n - 1) u
  refit-moves n t u g e =
      let f = one_fewer T R budget g.within g.left (rw e at (refit_step-is T R budget g.within base)) in
      (f.0, record { within = f.1; left = f.2 })

  -- The re-fit run ends by itself, after at most as many moves as the limits add up to, and counts the steps that answered 'moved'.
  pub refit-ends : {t : Table} → KeepsLimits T t → Ends (refit_step T budget) (Refitting T budget) (sum_of_limits T) t (refit_run T budget t)
  refit-ends {t} w =
      run_ends (refit_step T budget) (Refitting T budget) refit-moves _ (sum_of_limits T) t (omega arith)
      (record { within = w; left = at-most-limits T R budget w })

  pub refit-final : {t : Table} → KeepsLimits T t → Final T budget (refit_run T budget t).table
  refit-final {t} w =
      let r = refit-ends w in
      finished-final r.good.within r.stops

  -- ---- adding

  -- a step that adds takes one bit, and keeps what holds between such steps
  add-one-bit : {n : ℕ} {t u : Table} → Adding T budget n t → Move T budget t u → (0 < n) × Adding T budget (n - 1) u × (total_bits T u ≡ suc (total_bits T t))
  add-one-bit A (exchange E H q) = absurd (no-exchange T R budget A.efficient E H q)
  add-one-bit A (give_up H s q) = absurd (omega arith)
  add-one-bit A (take_one E s q) =
      let f = one_fewer T R budget A.within A.left (take_one E s q) in
      let e = total-taking T R A.within E.free in
      (f.0, record { within = f.1; efficient = efficient-taking T R A.within E s; fits = omega arith; left = f.2 }, bits-taking T R A.within E.free)

  pub add-moves : {n : ℕ} {t u : Table} → Adding T budget n t → add_step T budget t ≡ moved u → (0 < n) × Adding T budget (n - 1) u × (total_bits T u ≡ suc (total_bits T t))
  add-moves A e = add-one-bit A (rw e at (add_step-is T R budget A.within A.efficient A.fits))

  pub add-finished : {n : ℕ} {t : Table} → Adding T budget n t → add_step T budget t ≡ finished → Final T budget t
  add-finished A e = rw e at (add_step-is T R budget A.within A.efficient A.fits)

  pub no-bits-at : (i : ℕ) → i < T.count → no_bits T ! i ≡ 0
  no-bits-at i il = get_or-replicate {A = ℕ} T.count i 0 0 il

  -- adding may start from any efficient table within limits and budget
  pub adding-at : {t : Table} → KeepsLimits T t → Efficient T t → KeepsBudget T budget t → Adding T budget (sum_of_limits T) t
  adding-at w s fits = record { within = w; efficient = s; fits = fits; left = at-most-limits T R budget w }

  -- no bits are such a table
  pub adding-starts : Adding T budget (sum_of_limits T) (no_bits T)
  adding-starts =
      adding-at (record { sized = length-replicate T.count 0; under = λ i il. omega (arith, no-bits-at i il) })
      (record { sorted = λ {i} {b} x y. absurd (omega (arith, no-bits-at i x.tone)) }) base

  -- The adding run ends by itself, after at most as many moves as the limits add up to: from any such table, and so from no bits.
  pub adding-from : {t : Table} → Adding T budget (sum_of_limits T) t → Ends (add_step T budget) (Adding T budget) (sum_of_limits T) t (run (add_step T budget) (sum_of_limits T) t)
  adding-from {t} A =
      run_ends (add_step T budget) (Adding T budget) (λ n t u A e. let f = add-moves A e in (f.0, f.1)) _ (sum_of_limits T) t (omega arith) A

  pub adding-ends : Ends (add_step T budget) (Adding T budget) (sum_of_limits T) (no_bits T) (most_bits T budget)
  adding-ends = adding-from adding-starts

  -- Adding ends final, from any such table too.
  pub adding-from-final : {t : Table} → Adding T budget (sum_of_limits T) t → Final T budget (run (add_step T budget) (sum_of_limits T) t).table
  adding-from-final A =
      let r = adding-from A in
      add-finished r.good r.stops

  pub adding-final : Final T budget (most_bits T budget).table
  adding-final = adding-from-final adding-starts

  -- ---- demand 3

  pub demand-3 : (t : Table) → KeepsLimits T t → Demand3 T budget t
  demand-3 t w =
      let F = refit-final w in
      let r = refit-ends w in
      let e = final-unique T R F adding-final in
      record {
        same_table = e;
        same_powers = ap (powers T) e;
        same_bits = ap (total_bits T) e;
        same_power = ap (total_power T) e;
        limits = F.within;
        budget_kept = F.tight.fits;
        best = final-best T R F;
        added = adding-ends.counted;
        counted = r.counted;
        bounded = r.bounded;
      }
