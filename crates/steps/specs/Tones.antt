-- Tones, steps and tables, for any number of tones and any powers. Document 01, 'Cost, power and limit of a tone'.
-- Assumes nothing.
use Rattle.std.specs.Prelude.{◌≡◌, List, [], ◌∷◌, ◌++◌, ℕ, zero, suc, ◌+◌, ◌-◌, ◌≤◌, ◌<◌, length, get_or, replicate}
use Rattle.std.proofs.Math.Decide.{dec_lt, ℕ_discrete}

infixl 90 ◌!◌
-- Tones are numbered from 0. Each has a limit, the most bits that it takes, and a power for each number of bits, from no bits up.
pub record Tones : Type 0 where
  pub count : ℕ
  pub limit : ℕ → ℕ
  pub power : ℕ → ℕ → ℕ

-- 'The step of a tone at b bits is the power of b + 1 bits less the power of b.'
unfoldable pub step : Tones → ℕ → ℕ → ℕ
step T i b = T.power i (suc b) - T.power i b

-- 'Steps of one tone strictly rise', and no step is below zero: below its limit the power of a tone never falls.
pub record Rising (T : Tones) : Type 0 where
  pub grows : (i b : ℕ) → i < T.count → b < T.limit i → T.power i b ≤ T.power i (suc b)
  pub rises : (i b : ℕ) → i < T.count → suc b < T.limit i → step T i b < step T i (suc b)

-- 'Steps are ordered by size, then by lower tone number': the step of tone i at b bits comes before that of tone j at c bits.
pub data Before (T : Tones) (i b j c : ℕ) : Type 0 where
  by_size : step T i b < step T j c → Before T i b j c
  by_tone : step T i b ≡ step T j c → i < j → Before T i b j c

-- the same order as a decision
unfoldable pub before? : (T : Tones) (i b j c : ℕ) → Dec (Before T i b j c)
before? T i b j c = go (dec_lt (step T i b) (step T j c)) (ℕ_discrete (step T i b) (step T j c)) (dec_lt i j)
  where
    go : Dec (step T i b < step T j c) → Dec (step T i b ≡ step T j c) → Dec (i < j) → Dec (Before T i b j c)
    go (yes smaller) e l = yes (by_size smaller)
    go (no m) (yes same) (yes lower) = yes (by_tone same lower)
    go (no m) (yes same) (no k) = no (λ x. elim x [ by_size l ↦ m l | by_tone e l ↦ k l ])
    go (no m) (no k) l = no (λ x. elim x [ by_size l ↦ m l | by_tone e l ↦ k e ])

-- 'A table gives each of the N tones its bits.'
abbrev pub Table : Type 0
Table = List ℕ

-- the bits of tone i
abbrev pub ◌!◌ : Table → ℕ → ℕ
t ! i = get_or t i 0

-- the table of no bits
abbrev pub no_bits : Tones → Table
no_bits T = replicate T.count 0

-- 'A held step is one at fewer bits than the tone's present bits.'
pub record Held (T : Tones) (t : Table) (i b : ℕ) : Type 0 where
  pub tone : i < T.count
  pub held : b < t ! i

-- 'A free step is one at the present bits or more, but at fewer than its limit.'
pub record Free (T : Tones) (t : Table) (i b : ℕ) : Type 0 where
  pub tone : i < T.count
  pub above : t ! i ≤ b
  pub below : b < T.limit i

-- f 0 + .. + f (n - 1)
unfoldable pub sum : ℕ → (ℕ → ℕ) → ℕ
sum zero f = 0
sum (suc n) f = sum n f + f n

-- f 0, .., f (n - 1)
unfoldable pub list : ℕ → (ℕ → ℕ) → List ℕ
list zero f = []
list (suc n) f = list n f ++ (f n ∷ [])

-- the powers of a table
abbrev pub powers : Tones → Table → List ℕ
powers T t = list T.count (λ i. T.power i (t ! i))

-- 'Total bits and total power are the sums of a table's bits and powers.'
abbrev pub total_bits : Tones → Table → ℕ
total_bits T t = sum T.count (λ i. t ! i)

abbrev pub total_power : Tones → Table → ℕ
total_power T t = sum T.count (λ i. T.power i (t ! i))

abbrev pub sum_of_limits : Tones → ℕ
sum_of_limits T = sum T.count T.limit

-- A table 'keeps the limits if each tone's bits are at most its limit'.
pub record KeepsLimits (T : Tones) (t : Table) : Type 0 where
  pub sized : length t ≡ T.count
  pub under : (i : ℕ) → i < T.count → t ! i ≤ T.limit i

-- A table 'keeps the budget if its powers add up to at most the budget'.
abbrev pub KeepsBudget : Tones → (budget : ℕ) → Table → Type 0
KeepsBudget T budget t = total_power T t ≤ budget
