-- One adding pass over budgets of which none falls ends, at each of them, where a loading with that budget alone does.
-- Assumes nothing.
use mathlib.Core.Path.{◌≡◌, refl, ap, ◌∙◌}
use Prim.Native.Nat.{ℕ, zero, suc, ◌+◌, ◌≤◌, ◌<◌}
use native.Mathlib.Omega.{arith}
use Rattle.steps.specs.Tones.{Tones, Rising, Table, no_bits, total_bits, sum_of_limits, KeepsBudget}
use Rattle.steps.specs.Runs.{add_step, Ran, run, most_bits}
use Rattle.steps.specs.Passes.{further, one_pass, NoneFalls}
use Rattle.steps.proofs.Final.{final-unique}
use Rattle.steps.proofs.Demand3.{Adding, adding-at, adding-starts, adding-from-final, adding-final}
use Rattle.steps.proofs.Enough.{adding-enough, adds-bits, bits-are-moves}

-- two runs are the same if their tables and their moves are
same-ran : {t u : Table} {m n : ℕ} → t ≡ u → m ≡ n → ◌≡◌ {A = Ran} (record { table = t; moves = m }) (record { table = u; moves = n })
same-ran e f = cc (e, f)

-- no budget is below the first
pub none_below : {budgets : (k : ℕ) → ℕ} {n : ℕ} → NoneFalls budgets n → (k : ℕ) → k < n → budgets 0 ≤ budgets k
none_below N zero l = omega arith
none_below N (suc k) l = omega (arith, none_below N k (omega arith), N.no_fall k l)

module _ (T : Tones) (R : Rising T) where
  -- where adding has ended with one budget, it may go on with a larger one
  goes_on : {a b : ℕ} → a ≤ b → KeepsBudget T a (no_bits T) → Adding T b (sum_of_limits T) (most_bits T a).table
  goes_on {a} {b} h base =
      let F = adding-final T R a base in
      adding-at T R b (omega arith) F.within F.efficient (omega (arith, F.tight.fits))

  -- The run for a larger budget passes through the end of the run for a smaller one: it goes on from there, and makes the moves that are left.
  pub passes-through : (a b : ℕ) → a ≤ b → KeepsBudget T a (no_bits T) → further (most_bits T a) (run (add_step T b) (sum_of_limits T) (most_bits T a).table) ≡ most_bits T b
  passes-through a b h base = same-ran same left
    where
      larger : KeepsBudget T b (no_bits T)
      larger = omega arith

      rest : Ran
      rest = run (add_step T b) (sum_of_limits T) (most_bits T a).table

      same : rest.table ≡ (most_bits T b).table
      same = final-unique T R (adding-from-final T R b larger (goes_on h base)) (adding-final T R b larger)

      left : (most_bits T a).moves + rest.moves ≡ (most_bits T b).moves
      left =
          omega (
            arith,
            bits-are-moves T R a base (sum_of_limits T),
            bits-are-moves T R b larger (sum_of_limits T),
            adds-bits T R b larger (sum_of_limits T) (sum_of_limits T) (most_bits T a).table (goes_on h base),
            ap (total_bits T) same,
          )

  module _ (budgets : (k : ℕ) → ℕ) (n : ℕ) (N : NoneFalls budgets n) (base : KeepsBudget T (budgets 0) (no_bits T)) where
    -- no bits keep each budget, since they keep the first
    keeps : (k : ℕ) → k < n → KeepsBudget T (budgets k) (no_bits T)
    keeps k l = omega (arith, none_below N k l)

    -- One pass over budgets of which none falls ends, at each of them, where a loading with that budget alone ends, after as many moves.
    pub one-pass : (k : ℕ) → k < n → one_pass T budgets (suc k) ≡ most_bits T (budgets k)
    unfolding one_pass
    one-pass zero l = same-ran refl (omega arith)
    one-pass (suc k) l =
        ap (λ (r : Ran). further r (run (add_step T (budgets (suc k))) (sum_of_limits T) r.table)) (one-pass k (omega arith))
        ∙ passes-through (budgets k) (budgets (suc k)) (N.no_fall k l) (keeps k (omega arith))

    -- each of its runs starts where adding may
    pass-adding : (k : ℕ) → k < n → Adding T (budgets k) (sum_of_limits T) (one_pass T budgets k).table
    unfolding one_pass
    pass-adding zero l = adding-starts T R (budgets 0) base
    pass-adding (suc k) l = rw (ap (λ (r : Ran). r.table) (one-pass k (omega arith))) (goes_on (N.no_fall k l) (keeps k (omega arith)))

    -- as many moves as the limits add up to are enough for each of its runs
    pub pass-enough : (k : ℕ) → k < n → (most : ℕ) → sum_of_limits T ≤ most
        → run (add_step T (budgets k)) most (one_pass T budgets k).table ≡ run (add_step T (budgets k)) (sum_of_limits T) (one_pass T budgets k).table
    pass-enough k l most = adding-enough T R (budgets k) (keeps k l) (pass-adding k l) most
