-- The rank of a step in the order of all steps, the ranks that are kept of each tone in two arrays, and the least of them.
-- Assumes nothing.
use Rattle.std.specs.Prelude.{cond, List, ◌≢◌, ◌≡◌, ℕ, ◌+◌, ◌-◌, ◌*◌, ◌^◌, ◌≤◌, ◌<◌, ltb, get_or}
use Rattle.std.proofs.Math.Option.{Option, none, some}
use Rattle.sizes.specs.Sizes.{most_tones}
use Rattle.steps.specs.Tones.{Tones, step, Table, ◌!◌}
use Rattle.line.specs.declared.Steps.{Steps}
use Rattle.line.specs.Arrays.{Arrays, steps_in, step_size}

-- the base of a rank, above the number of every tone: the most tones
abbrev pub rank_base : ℕ
rank_base = most_tones

-- 'Steps are ordered by size, then by lower tone number': the rank of a step of this size of this tone
abbrev pub rank : (size tone : ℕ) → ℕ
rank size tone = size * rank_base + tone

-- the largest number of 64 bits, which stands for 'no step'
unfoldable pub no_step : ℕ
no_step = 2 ^ 64 - 1

-- the rank of a tone's earliest free step; that of its latest held one, counted down from the largest number
abbrev pub free_rank : (tone : ℕ) → Steps → (bits : ℕ) → ℕ
free_rank tone s bits = cond (ltb bits s.limit.bits) (rank (step_size s.cost s.doublings s.rest bits) tone) no_step

abbrev pub held_rank : (tone : ℕ) → Steps → (bits : ℕ) → ℕ
held_rank tone s bits = cond (ltb 0 bits) (no_step - rank (step_size s.cost s.doublings s.rest (bits - 1)) tone) no_step

-- the same of tone i of the array, at its bits
abbrev pub free_rank_at : Arrays → (bits : List ℕ) → (i : ℕ) → ℕ
free_rank_at A bits i = free_rank i (steps_in A i) (get_or bits i 0)

abbrev pub held_rank_at : Arrays → (bits : List ℕ) → (i : ℕ) → ℕ
held_rank_at A bits i = held_rank i (steps_in A i) (get_or bits i 0)

-- from tone n on there is no step
pub record NoneFrom (n : ℕ) (ranks : List ℕ) : Type 0 where
  pub none_from : (i : ℕ) → n ≤ i → i < most_tones → get_or ranks i 0 ≡ no_step

-- an array keeps these ranks of the tones below n, and from there on no step
pub record Keeps (n : ℕ) (rank_of : ℕ → ℕ) (ranks : List ℕ) : Type 0 where
  pub kept : (i : ℕ) → i < n → get_or ranks i 0 ≡ rank_of i
  pub past : NoneFrom n ranks

-- The ranks kept of every tone's earliest free and latest held step are those of its present bits.
pub record Ranked (count : ℕ) (A : Arrays) (bits free held : List ℕ) : Type 0 where
  pub free_ranks : Keeps count (free_rank_at A bits) free
  pub held_ranks : Keeps count (held_rank_at A bits) held

-- one of the first n ranks
pub record Among (n : ℕ) (ranks : List ℕ) (r : ℕ) : Type 0 where
  pub tone : ℕ
  pub inside : tone < n
  pub there : r ≡ get_or ranks tone 0

-- What a search promises: the least of the first n ranks, or the largest number where none of them is a step's.
pub record LeastOf (n : ℕ) (ranks : List ℕ) (r : ℕ) : Type 0 where
  pub low : (i : ℕ) → i < n → r ≤ get_or ranks i 0
  pub among : r ≢ no_step → Among n ranks r

-- The rank of the step that a rule's own search of table t finds: for no free step the largest number, for no held one 0.
abbrev pub rank_free : Tones → Table → Option ℕ → ℕ
rank_free T t none = no_step
rank_free T t (some f) = rank (step T f (t ! f)) f

abbrev pub rank_held : Tones → Table → Option ℕ → ℕ
rank_held T t none = 0
rank_held T t (some h) = rank (step T h (t ! h - 1)) h
