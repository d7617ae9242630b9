-- The running table beside the tones and the table of crate steps that it stands for; what each move does to it; what a step answers.
-- Assumes nothing.
use Rattle.std.specs.Prelude.{List, ◌≡◌, ℕ, suc, ◌+◌, ◌-◌, ◌^◌, ◌≤◌, ◌<◌, length, get_or, set}
use Rattle.steps.specs.Tones.{Tones, step, Table, ◌!◌, Held, Free, total_bits, total_power, KeepsLimits}
use Rattle.steps.specs.Runs as rule
use Rattle.line.specs.Arrays.{Arrays, limit_at, ArraysInRange, StandsFor}
use Rattle.ranks.specs.Ranks.{Ranked}
use Rattle.moves.specs.declared.Rule.{Rule}
use Rattle.moves.specs.declared.Step.{Step}
use Rattle.moves.specs.Moves.{rule_of}
use Rattle.running.specs.declared.Progress.TheVariants.{Moved, Finished}
use Rattle.running.specs.declared.Running.{Running}
use Rattle.running.specs.declared.Totals.{Totals}
use Rattle.running.specs.declared.Stepped.{Stepped}

-- ---- what it stands for

-- W2: 'total bits and total power in the running table', 'equal to the sums over the tones' of the table that it stands for. Every operation
-- that makes or alters a running table has it in its contract, by `Stands`.
pub record Sums (s : Totals) (T : Tones) (t : Table) : Type 0 where
  pub same_bits : s.bits ≡ total_bits T t
  pub same_power : s.power ≡ total_power T t

module _ (count : ℕ) (A : Arrays) where
  -- The running table stands for table t of tones T: it has its bits, and carries its totals.
  pub record Stands (r : Running) (T : Tones) (t : Table) : Type 0 where
    pub table : StandsFor count A r.bits T t
    pub sums : Sums r.totals T t

  -- It stands for some table, and every table within the limits has a power below 2^62, so that one step more stays within 64 bits.
  pub record Runnable (r : Running) : Type 0 where
    pub tones : Tones
    pub table : Table
    pub in_range : ArraysInRange count A
    pub stands : Stands r tones table
    pub bounded : (u : Table) → KeepsLimits tones u → total_power tones u < 2 ^ 62

-- ---- the moves

-- the running table with a free step taken, with a held one given up, and with a held one exchanged for a free one
abbrev pub taken : Running → (f : Step) → Running
taken r f = record {
  bits = set r.bits f.tone (suc (get_or r.bits f.tone 0));
  totals = record { bits = r.totals.bits + 1; power = r.totals.power + f.size };
}

abbrev pub given_up : Running → (h : Step) → Running
given_up r h = record {
  bits = set r.bits h.tone (get_or r.bits h.tone 0 - 1);
  totals = record { bits = r.totals.bits - 1; power = r.totals.power - h.size };
}

abbrev pub exchanged : Running → (h f : Step) → Running
exchanged r h f = taken (given_up r h) f

-- A step of one of the tones can be taken: it is free, and the totals stay within 32 and 64 bits.
pub record CanTake (A : Arrays) (r : Running) (f : Step) : Type 0 where
  pub in_range : ArraysInRange (length A) A
  pub tone : f.tone < length A
  pub free : get_or r.bits f.tone 0 < limit_at A f.tone
  pub bits_bounded : r.totals.bits + 1 < 2 ^ 32
  pub power_bounded : r.totals.power + f.size < 2 ^ 64

-- A step of one of the tones can be given up: it is held, and the totals have its bit and its size.
pub record CanGiveUp (A : Arrays) (r : Running) (h : Step) : Type 0 where
  pub in_range : ArraysInRange (length A) A
  pub tone : h.tone < length A
  pub held : 0 < get_or r.bits h.tone 0
  pub under : get_or r.bits h.tone 0 ≤ limit_at A h.tone
  pub bits_bounded : 0 < r.totals.bits
  pub power_bounded : h.size ≤ r.totals.power

-- f is the next step of its tone in table t, and free; h is the last one of its tone, and held; each has its size
pub record NextFree (T : Tones) (t : Table) (f : Step) : Type 0 where
  pub free : Free T t f.tone (t ! f.tone)
  pub sized : f.size ≡ step T f.tone (t ! f.tone)

pub record LastHeld (T : Tones) (t : Table) (h : Step) : Type 0 where
  pub held : Held T t h.tone (t ! h.tone - 1)
  pub sized : h.size ≡ step T h.tone (t ! h.tone - 1)

-- What a move does, whatever table the running table stands for, if that table allows the move: it then stands for the table that the move
-- leads to.
pub record Leads (A : Arrays) (old r : Running) (allows : Tones → Table → Type 0) (to : Table → Table) : Type 0 where
  pub stands : (count : ℕ) (T : Tones) (t : Table) → Stands count A old T t → allows T t → Stands count A r T (to t)

-- The kept ranks follow a move of steps of the first so many tones: if they were those of the bits before it, they are those of the bits after it.
pub record RanksFollow (A : Arrays) (old r : Running) (free held new_free new_held : List ℕ) (among : (count : ℕ) → Type 0) : Type 0 where
  pub still_ranked : (count : ℕ) → among count → Ranked count A old.bits free held → Ranked count A r.bits new_free new_held

-- ---- a step of a rule

module _ (count : ℕ) (A : Arrays) where
  -- What a step hands back, by the rule's own answer for table t: 'moved' with the running table of the table that the rule leaves, or
  -- 'finished' with the running table as it came.
  abbrev pub AnswersAs : Running → Stepped → Tones → rule.Answer → Type 0
  AnswersAs old r T rule.finished = (r.progress ≡ Finished) × (r.running ≡ old)
  AnswersAs old r T (rule.moved u) = (r.progress ≡ Moved) × Stands count A r.running T u

  -- A step of a rule: whatever table the running table stands for, the answer is the rule's.
  abbrev pub StepsBy : Rule → (budget : ℕ) → Running → Stepped → Type 0
  StepsBy by budget old r = (T : Tones) (t : Table) → Stands count A old T t → AnswersAs old r T (rule_of by T budget t)
