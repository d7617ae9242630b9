-- What a run knows after each move: the run from here on is the rest of the whole run. How that goes on and ends. And where no ranks are kept
-- yet, there are none.
-- Assumes nothing.
use mathlib.Core.List.{List}
use mathlib.Core.Path.{◌≡◌, refl, sym, ap, ◌∙◌}
use Prim.Native.Nat.{ℕ, suc, ◌+◌, ◌-◌, ◌<◌}
use native.Mathlib.Omega.{arith}
use borrow.Author.Tests.{lt-ltb, le-ltb}
use lib.ListN.{replicate, get_or-replicate}
use Rattle.sizes.specs.Sizes.{most_tones}
use Rattle.steps.specs.Tones.{Tones, Table}
use Rattle.steps.specs.Runs as rule
use Rattle.steps.proofs.Run.{run_moved, run-finished}
use Rattle.line.specs.Arrays.{Arrays}
use Rattle.ranks.specs.Ranks.{no_step, NoneFrom, Ranked}
use Rattle.moves.specs.declared.Rule.{Rule}
use Rattle.moves.specs.Moves.{rule_of}
use Rattle.running.specs.declared.Progress.TheVariants.{Moved, Finished}
use Rattle.running.specs.declared.Running.{Running}
use Rattle.running.specs.declared.Stepped.{Stepped}
use Rattle.running.specs.Running.{Stands, Runnable, AnswersAs, StepsBy}
use Rattle.wholeruns.specs.WholeRuns.{progress_after, EndsAs, RunsBy}

module _ (count : ℕ) (A : Arrays) where
  -- the rule moves to table `to`, for which the running table then stands
  record Next (a : rule.Answer) (r : Running) (T : Tones) : Type 0 where
    to : Table
    moves : a ≡ rule.moved to
    stands : Stands count A r T to

  -- what a step's answer tells of the rule's
  module _ (old : Running) (s : Stepped) (T : Tones) where
    next : (a : rule.Answer) → AnswersAs count A old s T a → ¬ (s.progress ≡ Finished) → Next a s.running T
    next rule.finished h n = absurd (n h.0)
    next (rule.moved u) h n = record { to = u; moves = refl; stands = h.1 }

    stays : (a : rule.Answer) → AnswersAs count A old s T a → s.progress ≡ Finished → (a ≡ rule.finished) × (s.running ≡ old)
    stays rule.finished h e = (refl, h.1)
    stays (rule.moved u) h e = absurd (cc h.0)

  -- The running table stands for `at`, and from there the moves that are left make the rest of the whole run.
  pub record Rest (by : Table → rule.Answer) (most : ℕ) (whole : rule.Ran) (now : Running) (m : ℕ) (T : Tones) : Type 0 where
    pub at : Table
    pub stands : Stands count A now T at
    pub table : (rule.run by (most - m) at).table ≡ whole.table
    pub moves : m + (rule.run by (most - m) at).moves ≡ whole.moves

  -- what holds after m moves, with the ranks kept in the arrays
  pub record Along (by : Rule) (most budget : ℕ) (start now : Running) (m : ℕ) (free held : List ℕ) : Type 0 where
    pub ranks : Ranked count A now.bits free held
    pub runnable : Runnable count A now
    pub rest : (T : Tones) (t : Table) → Stands count A start T t
        → Rest (rule_of by T budget) most (rule.run (rule_of by T budget) most t) now m T

  -- where the rest makes no move, the code ends as the whole run does
  ends : {by : Table → rule.Answer} {most m : ℕ} {whole : rule.Ran} {now : Running} {T : Tones} (r : Rest by most whole now m T)
      → rule.run by (most - m) r.at ≡ record { table = r.at; moves = 0 }
      → EndsAs count A most (record { running = now; moves = m; progress = progress_after m most }) T whole
  ends {most = most} {m = m} {whole = whole} r e =
      let same : m ≡ whole.moves = omega (arith, r.moves, ap (λ (x : rule.Ran). x.moves) e) in
      record {
        stands = rw (sym r.table ∙ ap (λ (x : rule.Ran). x.table) e) r.stands;
        counted = same;
        progressed = ap (λ (n : ℕ). progress_after n most) same;
      }

module _ {count : ℕ} {A : Arrays} {by : Rule} {most budget : ℕ} {start now : Running} {m : ℕ} {free held : List ℕ}
    (G : Along count A by most budget start now m free held) where
  -- as many moves are made as the run may make
  pub along-full : m ≡ most → RunsBy count A by most budget start (record { running = now; moves = most; progress = Moved })
  unfolding rule.run
  along-full e T t S =
      let none : most - m ≡ 0 = omega arith in
      rw e at (rw (le-ltb m most (omega arith)) at (ends count A (G.rest T t S) (rw none)))

  module _ {s : Stepped} (did : StepsBy count A by budget now s) (l : m < most) where
    -- the rule answers 'finished'
    pub along-finished : s.progress ≡ Finished → RunsBy count A by most budget start (record { running = s.running; moves = m; progress = Finished })
    along-finished e T t S =
        let r = G.rest T t S in
        let h = stays count A now s T (rule_of by T budget r.at) (did T r.at r.stands) e in
        rw h.1 (rw (lt-ltb m most l) at (ends count A r (run-finished (rule_of by T budget) (most - m) r.at h.0)))

    -- the rule moves, and the running table with it
    pub along-moved : ¬ (s.progress ≡ Finished) → {new_free new_held : List ℕ} → Ranked count A s.running.bits new_free new_held
        → Along count A by most budget start s.running (m + 1) new_free new_held
    along-moved f K = record {
      ranks = K;
      runnable =
          let R = G.runnable in
          let n = next count A now s R.tones (rule_of by R.tones budget R.table) (did R.tones R.table R.stands) f in
          record { tones = R.tones; table = n.to; in_range = R.in_range; stands = n.stands; bounded = R.bounded };
      rest = λ T t S.
          let r = G.rest T t S in
          let n = next count A now s T (rule_of by T budget r.at) (did T r.at r.stands) f in
          let left : most - m ≡ suc (most - (m + 1)) = omega arith in
          let q = rw (← left) at (run_moved (rule_of by T budget) (most - (m + 1)) r.at n.moves) in
          record {
            at = n.to;
            stands = n.stands;
            table = sym (ap (λ (x : rule.Ran). x.table) q) ∙ r.table;
            moves = omega (arith, r.moves, ap (λ (x : rule.Ran). x.moves) q);
          };
    }

-- ---- where no ranks are kept yet

pub none_yet : (n : ℕ) → NoneFrom n (replicate most_tones no_step)
none_yet n = record { none_from = λ i h l. get_or-replicate most_tones i no_step 0 l }
