-- A run of any rule: if every move uses up one of n, a run that may make n moves ends where the rule answers 'finished',
-- and its count is that of the steps that answered 'moved'.
-- Assumes nothing.
use mathlib.Core.Path.{◌≡◌, refl, ap}
use Prim.Native.Nat.{ℕ, zero, suc, ◌-◌, ◌≤◌, ◌<◌}
use native.Mathlib.Omega.{arith}
use Rattle.steps.specs.Tones.{Table}
use Rattle.steps.specs.Runs.{Answer, moved, finished, Ran, follow, run}
use Rattle.steps.specs.Claims.{Moves, none_left, one_more}

-- where the rule moves, a run is that of one move fewer from the table that it leaves, and one move
pub run_moved : (rule : Table → Answer) (k : ℕ) (t : Table) {u : Table} → rule t ≡ moved u → run rule (suc k) t ≡ record { table = (run rule k u).table; moves = suc (run rule k u).moves }
unfolding run follow
run_moved rule k t e = ap (follow (run rule k) t) e

-- where it answers 'finished', a run makes no move
pub run-finished : (rule : Table → Answer) (k : ℕ) (t : Table) → rule t ≡ finished → run rule k t ≡ record { table = t; moves = 0 }
unfolding run follow
run-finished rule zero t e = refl
run-finished rule (suc k) t e = ap (follow (run rule k) t) e

pub record Ends (rule : Table → Answer) (Good : ℕ → Table → Type 0) (n : ℕ) (t : Table) (r : Ran) : Type 0 where
  pub left : ℕ
  pub good : Good left r.table
  pub stops : rule r.table ≡ finished
  pub counted : Moves rule r.moves t r.table
  pub bounded : r.moves ≤ n

module _ (rule : Table → Answer) (Good : ℕ → Table → Type 0)
    (step : (n : ℕ) (t u : Table) → Good n t → rule t ≡ moved u → (0 < n) × Good (n - 1) u) where
  pub run_ends : (k n : ℕ) (t : Table) → n ≤ k → Good n t → Ends rule Good n t (run rule k t)
  unfolding run follow
  run_ends zero n t l g = go (rule t) refl
    where
      go : (a : Answer) → rule t ≡ a → Ends rule Good n t (record { table = t; moves = 0 })
      go finished e = record { left = n; good = g; stops = e; counted = none_left e; bounded = omega arith }
      go (moved u) e = absurd (omega (arith, step n t u g e))
  run_ends (suc k) n t l g = go (rule t) refl (λ m u. run_ends k m u)
    where
      go : (a : Answer) → rule t ≡ a → ((m : ℕ) (u : Table) → m ≤ k → Good m u → Ends rule Good m u (run rule k u)) → Ends rule Good n t (follow (run rule k) t a)
      go finished e ih = record { left = n; good = g; stops = e; counted = none_left e; bounded = omega arith }
      go (moved u) e ih =
          let s = step n t u g e in
          let r = ih (n - 1) u (omega arith) s.1 in
          record {
            left = r.left;
            good = r.good;
            stops = r.stops;
            counted = one_more e r.counted;
            bounded = omega (arith, r.bounded, s.0);
          }
