-- The tones of a line as an array of their steps, so that the runs have one path for both kinds: of each tone its limit, its cost, by how many
-- doublings a step grows from bit to bit, and its rest. What the array says of tones, and what bits beside it say of a table.
-- Assumes nothing.
use Rattle.std.specs.Prelude.{List, ◌≡◌, ℕ, zero, suc, ◌-◌, ◌*◌, ◌^◌, ◌≤◌, ◌<◌, length, get_or}
use Rattle.sizes.specs.Sizes.{most_tones}
use Rattle.steps.specs.Tones.{Tones, Rising, Table, ◌!◌, KeepsLimits}
use Rattle.line.specs.declared.Steps.{Steps}
use Rattle.line.specs.Line.{Line, no_steps, steps_at}

abbrev pub Arrays : Type 0
Arrays = List Steps

-- what it holds of tone i
abbrev pub steps_in : Arrays → (i : ℕ) → Steps
steps_in A i = get_or A i no_steps

abbrev pub limit_at : Arrays → (i : ℕ) → ℕ
limit_at A i = (steps_in A i).limit.bits

abbrev pub cost_at : Arrays → (i : ℕ) → ℕ
cost_at A i = (steps_in A i).cost

abbrev pub doublings_at : Arrays → (i : ℕ) → ℕ
doublings_at A i = (steps_in A i).doublings

abbrev pub rest_at : Arrays → (i : ℕ) → ℕ
rest_at A i = (steps_in A i).rest

-- the power of b bits, of one and more: the cost, doubled `doublings` × b times, less the cost
abbrev pub power_of : (cost doublings b : ℕ) → ℕ
power_of cost doublings b = cost * 2 ^ (doublings * b) - cost

-- the power of b bits, of none the rest
abbrev pub power_in : (cost doublings rest b : ℕ) → ℕ
power_in cost doublings rest zero = rest
power_in cost doublings rest (suc b) = power_of cost doublings (suc b)

abbrev pub power_at : Arrays → (i b : ℕ) → ℕ
power_at A i b = power_in (cost_at A i) (doublings_at A i) (rest_at A i) b

-- 'The step of a tone at b bits is the power of b + 1 bits less the power of b.'
abbrev pub step_size : (cost doublings rest b : ℕ) → ℕ
step_size cost doublings rest b = power_in cost doublings rest (suc b) - power_in cost doublings rest b

-- The steps of a tone that takes bits are above 0: it has a doubling, and its rest is below its cost.
pub record StepsRise (cost doublings rest : ℕ) : Type 0 where
  pub doubles : 0 < doublings
  pub rest_low : rest < cost

-- the ranges of the array, which keep every step of so many tones above 0 and below 2^39
pub record ArraysInRange (count : ℕ) (A : Arrays) : Type 0 where
  pub count_high : count ≤ most_tones
  pub steps_rise : (i : ℕ) → i < count → 0 < limit_at A i → StepsRise (cost_at A i) (doublings_at A i) (rest_at A i)
  pub cost_high : (i : ℕ) → i < count → cost_at A i < 2 ^ 24
  pub shift_high : (i : ℕ) → i < count → doublings_at A i * limit_at A i ≤ 15
  pub rest_high : (i : ℕ) → i < count → rest_at A i < 2 ^ 24

-- no tone has more bits than its limit
pub record Under (count : ℕ) (A : Arrays) (bits : List ℕ) : Type 0 where
  pub under : (i : ℕ) → i < count → get_or bits i 0 ≤ limit_at A i

-- the range of rests
pub record RestsInRange (count : ℕ) (A : Arrays) : Type 0 where
  pub rest_high : (i : ℕ) → i < count → rest_at A i < 2 ^ 24

-- the ranges in which costs, doublings and rests give the powers of a table's bits
pub record PowersInRange (count : ℕ) (A : Arrays) (bits : List ℕ) : Type 0 where
  pub cost_high : (i : ℕ) → i < count → cost_at A i < 2 ^ 24
  pub shift_high : (i : ℕ) → i < count → doublings_at A i * get_or bits i 0 ≤ 15
  pub rest_high : (i : ℕ) → i < count → rest_at A i < 2 ^ 24

-- The array describes tones T: their number, their limits, and their powers within the limits.
pub record Describes (count : ℕ) (A : Arrays) (T : Tones) : Type 0 where
  pub same_count : T.count ≡ count
  pub same_limit : (i : ℕ) → i < count → T.limit i ≡ limit_at A i
  pub same_power : (i b : ℕ) → i < count → b ≤ T.limit i → T.power i b ≡ power_at A i b

-- Beside the array, bits stand for table t of tones T, which keeps the limits; the steps of T rise.
pub record StandsFor (count : ℕ) (A : Arrays) (bits : List ℕ) (T : Tones) (t : Table) : Type 0 where
  pub describes : Describes count A T
  pub rising : Rising T
  pub within : KeepsLimits T t
  pub same_bits : (i : ℕ) → i < count → t ! i ≡ get_or bits i 0

-- The array is that of a line, whole: past its N tones there is nothing.
pub record ArraysOf (l : Line) (A : Arrays) : Type 0 where
  pub sized : length A ≡ most_tones
  pub agree : (i : ℕ) → steps_in A i ≡ steps_at l i
