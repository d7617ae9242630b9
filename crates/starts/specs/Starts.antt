-- Starting tables, and the running table that a run starts from. Document 01, 'A re-fit's starting table is one byte of bits a tone', and
-- refusal 10.
-- Assumes nothing.
use Rattle.std.specs.Prelude.{List, ◌≡◌, ℕ, ◌<◌, ltb, length, get_or, replicate, Option}
use Rattle.sizes.specs.Sizes.{most_tones}
use Rattle.lists.specs.First.{first}
use Rattle.steps.specs.Tones.{Tones, Rising, Table, ◌!◌, sum, no_bits, KeepsLimits}
use Rattle.line.specs.Arrays.{Arrays, limit_at, rest_at, power_at, Describes}
use Rattle.running.specs.declared.Running.{Running}
use Rattle.running.specs.Running.{Stands}

-- 'the first such tone': of the tones below n, the first with more bits than its limit
unfoldable pub first_above : Tones → Table → (n : ℕ) → Option ℕ
first_above T t n = first (λ i. ltb (T.limit i) (t ! i)) n

-- the array has the limits of the first n tones
pub record SameLimits (T : Tones) (A : Arrays) (n : ℕ) : Type 0 where
  pub same_limit : (i : ℕ) → i < n → T.limit i ≡ limit_at A i

-- The running table of no bits: its power is what the rests add up to.
abbrev pub none_running : Arrays → Running
none_running A = record { bits = replicate most_tones 0; totals = record { bits = 0; power = sum (length A) (rest_at A) } }

-- A running table is copied from a starting table: it has its bits, and for its totals the sums of those bits and of their powers, whatever the
-- limits.
pub record CopiedFrom (A : Arrays) (start : Table) (r : Running) : Type 0 where
  pub same_bits : (i : ℕ) → i < length start → get_or r.bits i 0 ≡ start ! i
  pub total_bits : r.totals.bits ≡ sum (length start) (λ i. start ! i)
  pub total_power : r.totals.power ≡ sum (length start) (λ i. power_at A i (start ! i))

-- A running table stands for the table of no bits, whatever rising tones the array describes.
abbrev pub StartsAtNone : (count : ℕ) → Arrays → Running → Type 0
StartsAtNone count A r = (T : Tones) → Describes count A T → Rising T → Stands count A r T (no_bits T)

-- The running table that a starting table is copied into stands for it, whatever rising tones the array describes.
abbrev pub StartsAt : Arrays → (start : List ℕ) → Running → Type 0
StartsAt A start r = (T : Tones) → Describes (length start) A T → Rising T → KeepsLimits T start → Stands (length start) A r T start
