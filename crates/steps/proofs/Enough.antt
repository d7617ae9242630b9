-- Moves that are enough are as good as any more; adding a set number of bits is adding so many moves, and each adds one bit.
-- Assumes nothing.
use mathlib.Core.Path.{◌≡◌, refl, ap, ◌∙◌}
use mathlib.Core.Logic.{if_pos, if_neg}
use Prim.Native.Nat.{ℕ, zero, suc, ◌+◌, ◌-◌, ◌≤◌}
use native.Mathlib.Decide.{dec_lt}
use native.Mathlib.Nat.{not-suc-le-zero}
use native.Mathlib.Omega.{arith}
use Rattle.steps.specs.Tones.{Tones, Rising, Table, ◌!◌, no_bits, total_bits, sum_of_limits, KeepsLimits, KeepsBudget}
use Rattle.steps.specs.Runs.{Answer, moved, finished, add_step, add_step_to, refit_step, Ran, follow, run, most_bits, refit_run, carrying, set_bits}
use Rattle.steps.proofs.Sums.{sum-zero}
use Rattle.steps.proofs.Run.{run_moved, run-finished}
use Rattle.steps.proofs.Demand3.{Adding, refit-ends, add-moves, no-bits-at, adding-starts, adding-from}

-- a run that has ended stays where it is, however many more moves it may make
pub run_more : (rule : Table → Answer) (k j : ℕ) (t : Table) → rule (run rule k t).table ≡ finished → k ≤ j → run rule j t ≡ run rule k t
unfolding run follow
run_more rule zero j t e l = run-finished rule j t e
run_more rule (suc k) zero t e l = absurd (not-suc-le-zero l)
run_more rule (suc k) (suc j) t e l = go (rule t) e (λ u. run_more rule k j u)
  where
    go : (a : Answer) → rule (follow (run rule k) t a).table ≡ finished → ((u : Table) → rule (run rule k u).table ≡ finished → k ≤ j → run rule j u ≡ run rule k u)
        → follow (run rule j) t a ≡ follow (run rule k) t a
    go finished q ih = refl
    go (moved u) q ih = ap (λ (r : Ran). record { table = r.table; moves = suc r.moves }) (ih u q (omega arith))

-- a run makes no more moves than it may
pub moves-at-most : (rule : Table → Answer) (k : ℕ) (t : Table) → (run rule k t).moves ≤ k
unfolding run follow
moves-at-most rule zero t = omega arith
moves-at-most rule (suc k) t = go (rule t) (moves-at-most rule k)
  where
    go : (a : Answer) → ((u : Table) → (run rule k u).moves ≤ k) → (follow (run rule k) t a).moves ≤ suc k
    go finished ih = omega arith
    go (moved u) ih = omega (arith, ih u)

module _ (T : Tones) (R : Rising T) (budget : ℕ) (base : KeepsBudget T budget (no_bits T)) where
  -- As many moves as the limits add up to are enough: to add from any table where adding may start, and so from no bits; and to re-fit.
  pub adding-enough : {t : Table} → Adding T budget (sum_of_limits T) t → (k : ℕ) → sum_of_limits T ≤ k → run (add_step T budget) k t ≡ run (add_step T budget) (sum_of_limits T) t
  adding-enough {t} A k l = run_more (add_step T budget) (sum_of_limits T) k t (adding-from T R budget base A).stops l

  pub most-bits-enough : (k : ℕ) → sum_of_limits T ≤ k → run (add_step T budget) k (no_bits T) ≡ most_bits T budget
  most-bits-enough = adding-enough (adding-starts T R budget base)

  pub refit-enough : {t : Table} → KeepsLimits T t → (k : ℕ) → sum_of_limits T ≤ k → run (refit_step T budget) k t ≡ refit_run T budget t
  refit-enough {t} w k l = run_more (refit_step T budget) (sum_of_limits T) k t (refit-ends T R budget base w).stops l

  -- from a table that is k bits short of the target, adding up to it is adding k
  adds : (target k m n : ℕ) (t : Table) → Adding T budget n t → n ≤ m → total_bits T t + k ≡ target → (run (add_step_to T budget target) m t).table ≡ (run (add_step T budget) k t).table
  unfolding run follow add_step_to
  adds target zero m n t A l e =
      ap (λ (r : Ran). r.table) (run-finished (add_step_to T budget target) m t (if_neg (dec_lt (total_bits T t) target) (λ q. omega arith) _ _))
  adds target (suc k) m n t A l e = go (add_step T budget t) refl (λ m n u. adds target k m n u)
    where
      to : add_step_to T budget target t ≡ add_step T budget t
      to = if_pos (dec_lt (total_bits T t) target) (omega arith) _ _

      go : (a : Answer) → add_step T budget t ≡ a
          → ((m n : ℕ) (u : Table) → Adding T budget n u → n ≤ m → total_bits T u + k ≡ target → (run (add_step_to T budget target) m u).table ≡ (run (add_step T budget) k u).table)
          → (run (add_step_to T budget target) m t).table ≡ (follow (run (add_step T budget) k) t a).table
      go finished q ih = ap (λ (r : Ran). r.table) (run-finished (add_step_to T budget target) m t (to ∙ q))
      go (moved u) q ih =
          let f = add-moves T R budget base A q in
          let j : m ≡ suc (m - 1) = omega arith in
          ap (λ (x : ℕ). (run (add_step_to T budget target) x t).table) j
          ∙ ap (λ (r : Ran). r.table) (run_moved (add_step_to T budget target) (m - 1) t (to ∙ q))
          ∙ ih (m - 1) (n - 1) u f.1 (omega arith) (omega arith)

  -- from no bits every move adds one, so the run that stops at the target is the one that makes so many moves
  pub set-bits-adds : (target : ℕ) → set_bits T budget target ≡ carrying T target (run (add_step T budget) target (no_bits T)).table
  unfolding set_bits
  set-bits-adds target =
      ap (carrying T target)
      (adds target target (sum_of_limits T) (sum_of_limits T) (no_bits T) (adding-starts T R budget base) (omega arith)
      (omega (arith, sum-zero T.count (λ i. no_bits T ! i) (no-bits-at T R budget base))))

  -- each move adds one bit
  pub adds-bits : (k n : ℕ) (t : Table) → Adding T budget n t → total_bits T (run (add_step T budget) k t).table ≡ total_bits T t + (run (add_step T budget) k t).moves
  unfolding run follow
  adds-bits zero n t A = omega arith
  adds-bits (suc k) n t A = go (add_step T budget t) refl (λ n u. adds-bits k n u)
    where
      go : (a : Answer) → add_step T budget t ≡ a
          → ((n : ℕ) (u : Table) → Adding T budget n u → total_bits T (run (add_step T budget) k u).table ≡ total_bits T u + (run (add_step T budget) k u).moves)
          → total_bits T (follow (run (add_step T budget) k) t a).table ≡ total_bits T t + (follow (run (add_step T budget) k) t a).moves
      go finished q ih = omega arith
      go (moved u) q ih =
          let f = add-moves T R budget base A q in
          omega (arith, ih (n - 1) u f.1, f.2)

  pub bits-are-moves : (k : ℕ) → total_bits T (run (add_step T budget) k (no_bits T)).table ≡ (run (add_step T budget) k (no_bits T)).moves
  bits-are-moves k =
      omega (arith, adds-bits k (sum_of_limits T) (no_bits T) (adding-starts T R budget base), sum-zero T.count (λ i. no_bits T ! i) (no-bits-at T R budget base))
