-- The adding pass as the code makes it: what holds before each budget, how that starts, goes on and ends.
-- Assumes nothing.
use mathlib.Core.List.{List, ◌++◌}
use mathlib.Core.Path.{◌≡◌, refl, ap, ◌∙◌}
use Prim.Native.Nat.{ℕ, suc, ◌+◌, ◌*◌, ◌≤◌, ◌<◌}
use native.Mathlib.Numerals.{add-one}
use native.Mathlib.Omega.{arith}
use lib.Seq.{sets}
use Rattle.sizes.specs.Sizes.{most_bits_of_all, totals_bytes}
use Rattle.bigendian.specs.Number.{bytes}
use Rattle.lists.proofs.Joined.{Written, written_none, written_next}
use Rattle.steps.specs.Tones.{Tones, no_bits, sum_of_limits}
use Rattle.steps.specs.Runs.{Ran, add_step, run, most_bits}
use Rattle.steps.specs.Passes.{one_pass}
use Rattle.steps.proofs.Enough.{moves-at-most}
use Rattle.steps.proofs.Passes.{one-pass, pass-enough}
use Rattle.line.specs.Arrays.{Arrays}
use Rattle.ranks.specs.Ranks.{Ranked}
use Rattle.moves.specs.declared.Rule.TheVariants.{Add}
use Rattle.running.specs.declared.Running.{Running}
use Rattle.running.specs.Running.{Stands, Runnable}
use Rattle.wholeruns.specs.declared.Ended.{Ended}
use Rattle.wholeruns.specs.WholeRuns.{RunsBy}
use Rattle.starts.specs.Starts.{StartsAtNone}
use Rattle.budgetlist.specs.Budgets.{budget_of}
use Rattle.loadings.specs.Loads.{Loadable, ForTones}
use Rattle.loadings.proofs.Runs.{limits-high, runnable, none-stands}
use Rattle.budgets.specs.Budgets.{totals_for}
use Rattle.budgets.specs.Pass.{Passable, PassedBy}
use Rattle.budgets.proofs.Laws.{length-totals-for}

module _ (count : ℕ) (A : Arrays) (list : List ℕ) (n : ℕ) (out₀ : List ℕ) where
  -- Before budget k the running table stands for the table that one pass through the budgets below k ends in, the moves are those of that pass,
  -- and the totals of those budgets are written.
  pub record Passing (out : List ℕ) (running : Running) (free held : List ℕ) (moves k : ℕ) : Type 0 where
    pub passable : Passable count A list n out₀
    pub inside : k ≤ n
    pub ranks : Ranked count A running.bits free held
    pub stands : ForTones count (budget_of list 0) A (λ T. Stands count A running T (one_pass T (budget_of list) k).table)
    pub counted : ForTones count (budget_of list 0) A (λ T. moves ≡ (one_pass T (budget_of list) k).moves)
    pub entries : ForTones count (budget_of list 0) A (λ T. Written (λ i. totals_for T (budget_of list i)) out₀ 0 k out (totals_bytes * k))

module _ {count : ℕ} {A : Arrays} {list : List ℕ} {n : ℕ} {out₀ : List ℕ} where
  pub passing-starts : Passable count A list n out₀ → {r : Running} {free held : List ℕ} → StartsAtNone count A r → Ranked count A r.bits free held
      → Passing count A list n out₀ out₀ r free held 0 0
  unfolding one_pass
  passing-starts P none ranks = record {
    passable = P;
    inside = omega arith;
    ranks = ranks;
    stands = λ T L. none-stands L none;
    counted = λ T L. refl;
    entries = λ T L. written_none _ out₀ 0;
  }

  module _ {out : List ℕ} {running : Running} {free held : List ℕ} {moves k : ℕ} (G : Passing count A list n out₀ out running free held moves k) where
    -- a run may go on from here
    pub passing-runs : Runnable count A running
    passing-runs =
        let S = G.passable.some_tones in
        runnable S.loadable (G.stands S.tones S.loadable)

    module _ (l : k < n) {b : ℕ} (budget-is : b ≡ budget_of list k) {r : Ended} (ran : RunsBy count A Add most_bits_of_all b running r) where
      module _ {T : Tones} (L : Loadable count (budget_of list 0) A T) where
        -- the run's table and moves are those of the pass, one budget further
        abbrev further-run : Ran
        further-run = run (add_step T (budget_of list k)) most_bits_of_all (one_pass T (budget_of list) k).table

        enough : further-run ≡ run (add_step T (budget_of list k)) (sum_of_limits T) (one_pass T (budget_of list) k).table
        enough = pass-enough T L.rising (budget_of list) n G.passable.none_falls L.none_fits k l most_bits_of_all (limits-high L)

        alone : one_pass T (budget_of list) (suc k) ≡ most_bits T (budget_of list k)
        alone = one-pass T L.rising (budget_of list) n G.passable.none_falls L.none_fits k l

        stands-next : Stands count A r.running T (one_pass T (budget_of list) (suc k)).table
        unfolding one_pass
        stands-next = rw (ap (λ (x : Ran). x.table) enough) at ((rw budget-is at ran) T _ (G.stands T L)).stands

        counted_next : moves + r.moves ≡ (one_pass T (budget_of list) (suc k)).moves
        unfolding one_pass
        counted_next = omega (arith, G.counted T L, ((rw budget-is at ran) T _ (G.stands T L)).counted, ap (λ (x : Ran). x.moves) enough)

        -- as many moves as the budget alone needs, which are few
        few : moves + r.moves ≤ most_bits_of_all
        few = omega (arith, counted_next, ap (λ (x : Ran). x.moves) alone, moves-at-most (add_step T (budget_of list k)) (sum_of_limits T) (no_bits T), limits-high L)

        -- the totals that the running table carries are those of the budget alone
        totals-are : bytes 4 r.running.totals.bits ++ bytes 8 r.running.totals.power ≡ totals_for T (budget_of list k)
        totals-are =
            let S = rw (ap (λ (x : Ran). x.table) alone) at stands-next in
            rw (S.sums.same_bits, S.sums.same_power)

      pub moves-few : moves + r.moves ≤ most_bits_of_all
      moves-few = few G.passable.some_tones.loadable

      -- one budget more
      pub passing-next : {new_free new_held : List ℕ} → Ranked count A r.running.bits new_free new_held
          → {out' : List ℕ} → out' ≡ sets out (totals_bytes * k) (bytes 4 r.running.totals.bits ++ bytes 8 r.running.totals.power)
          → Passing count A list n out₀ out' r.running new_free new_held (moves + r.moves) (k + 1)
      passing-next ranks stored = record {
        passable = G.passable;
        inside = omega arith;
        ranks = ranks;
        stands = λ T L. rw add-one (stands-next L);
        counted = λ T L. rw add-one (counted_next L);
        entries = λ T L.
            written_next _ out₀ 0 (G.entries T L) (omega (arith, length-totals-for T (budget_of list k)))
            (stored ∙ ap (sets out (totals_bytes * k)) (totals-are L));
      }

    -- all of them are answered
    pub passing-ends : n ≤ k → PassedBy count A list n out₀ out moves
    passing-ends all = record {
      written = λ T L.
          let e : k ≡ n = omega (arith, G.inside) in
          rw e at (G.entries T L).stores;
      counted = λ T L last e.
          let f : k ≡ suc last = omega (arith, G.inside) in
          (rw f at (G.counted T L)) ∙ ap (λ (x : Ran). x.moves) (one-pass T L.rising (budget_of list) n G.passable.none_falls L.none_fits last (omega arith));
    }
