-- The rules by name, what the code knows of a table when it asks for the next move, and what a move says.
-- Assumes nothing.
use Rattle.std.proofs.Math.Option.{some}
use Rattle.std.specs.Prelude.{◌≡◌, ℕ, ◌-◌, ◌%◌, ◌/◌, ◌^◌, ◌≤◌, ◌<◌, Option, Some, None}
use Rattle.sizes.specs.Sizes.{most_tones}
use Rattle.steps.specs.Tones.{Tones, step, Rising, Before, Table, ◌!◌, total_power, KeepsLimits}
use Rattle.steps.specs.Runs as rule
use Rattle.ranks.specs.Ranks.{rank_base, rank_free, rank_held}
use Rattle.moves.specs.declared.Rule.{Rule}
use Rattle.moves.specs.declared.Rule.TheVariants.{Add, Refit}
use Rattle.moves.specs.declared.Step.{Step}
use Rattle.moves.specs.declared.Move.{Move}
use Rattle.moves.specs.declared.Move.TheVariants.{Take, GiveUp, Exchange}

-- the rule that a name stands for
abbrev pub rule_of : Rule → Tones → (budget : ℕ) → Table → rule.Answer
rule_of Add = rule.add_step
rule_of Refit = rule.refit_step

-- the step at a rank
abbrev pub step_at : ℕ → Step
step_at at = record { tone = at % rank_base; size = at / rank_base }

-- There are no more than the most tones, and below the limits no step is 0, or 2^39 or more.
pub record Small (T : Tones) : Type 0 where
  pub count_high : T.count ≤ most_tones
  pub size_low : (i b : ℕ) → i < T.count → b < T.limit i → 0 < step T i b
  pub size_high : (i b : ℕ) → i < T.count → b < T.limit i → step T i b < 2 ^ 39

-- the rank of the latest held step, which adding does not ask for
abbrev pub LatestAt : Rule → Tones → Table → (latest : ℕ) → Type 0
LatestAt Add T t latest = Unit {0}
LatestAt Refit T t latest = latest ≡ rank_held T t (rule.latest_held T t)

-- What the code knows of table t: its total power, and the ranks of its earliest free and its latest held step.
pub record Knows (r : Rule) (T : Tones) (t : Table) (power earliest latest : ℕ) : Type 0 where
  pub small : Small T
  pub rising : Rising T
  pub within : KeepsLimits T t
  pub same_power : power ≡ total_power T t
  pub earliest_at : earliest ≡ rank_free T t (rule.earliest_free T t)
  pub latest_at : LatestAt r T t latest

-- f is the earliest free step, h the latest held one
pub record Takes (T : Tones) (t : Table) (f : Step) : Type 0 where
  pub found : rule.earliest_free T t ≡ some f.tone
  pub sized : f.size ≡ step T f.tone (t ! f.tone)

pub record GivesUp (T : Tones) (t : Table) (h : Step) : Type 0 where
  pub found : rule.latest_held T t ≡ some h.tone
  pub sized : h.size ≡ step T h.tone (t ! h.tone - 1)

pub record Exchanges (T : Tones) (t : Table) (h f : Step) : Type 0 where
  pub gives_up : GivesUp T t h
  pub takes : Takes T t f
  pub before : Before T f.tone (t ! f.tone) h.tone (t ! h.tone - 1)

-- A move is the one that a rule's answer for table t calls for; no move is what 'finished' calls for.
abbrev pub CallsFor : Tones → Table → Option Move → rule.Answer → Type 0
CallsFor T t None a = a ≡ rule.finished
CallsFor T t (Some (Take f)) a = (a ≡ rule.moved (rule.taking t f.tone)) × Takes T t f
CallsFor T t (Some (GiveUp h)) a = (a ≡ rule.moved (rule.giving_up t h.tone)) × GivesUp T t h
CallsFor T t (Some (Exchange h f)) a = (a ≡ rule.moved (rule.taking (rule.giving_up t h.tone) f.tone)) × Exchanges T t h f
