-- What a whole run answers, beside the run of crate steps.
-- Assumes nothing.
use Rattle.std.specs.Prelude.{cond, ◌≡◌, ℕ, ltb}
use Rattle.steps.specs.Tones.{Tones, Table}
use Rattle.steps.specs.Runs as rule
use Rattle.line.specs.Arrays.{Arrays}
use Rattle.moves.specs.declared.Rule.{Rule}
use Rattle.moves.specs.Moves.{rule_of}
use Rattle.running.specs.declared.Progress.{Progress}
use Rattle.running.specs.declared.Progress.TheVariants.{Moved, Finished}
use Rattle.running.specs.declared.Running.{Running}
use Rattle.running.specs.Running.{Stands}
use Rattle.wholeruns.specs.declared.Ended.{Ended}

-- 'finished' if a run made fewer moves than it may, else 'moved': so with none allowed it is 'moved'
abbrev pub progress_after : (made most : ℕ) → Progress
progress_after made most = cond (ltb made most) Finished Moved

module _ (count : ℕ) (A : Arrays) where
  -- The code's run, of at most so many moves, ends in the table of the rule's run, after as many moves, and says by their number whether
  -- it is finished.
  pub record EndsAs (most : ℕ) (r : Ended) (T : Tones) (ran : rule.Ran) : Type 0 where
    pub stands : Stands count A r.running T ran.table
    pub counted : r.moves ≡ ran.moves
    pub progressed : r.progress ≡ progress_after ran.moves most

  abbrev pub RunsBy : Rule → (most budget : ℕ) → Running → Ended → Type 0
  RunsBy by most budget old r = (T : Tones) (t : Table) → Stands count A old T t → EndsAs most r T (rule.run (rule_of by T budget) most t)
