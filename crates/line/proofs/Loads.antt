-- The tones of a line in range rise, so all that crate steps proves holds of its runs, where its rests keep the budget: demand 3 and the set
-- number of bits.
-- Assumes nothing.
use mathlib.Core.Path.{◌≡◌, refl, ap}
use mathlib.Core.Bool.{Bool, true, false}
use Prim.Native.Nat.{ℕ, zero, suc, ◌+◌, ◌≤◌, ◌<◌}
use native.Mathlib.Omega.{arith}
use lib.ListN.{get_or-replicate, length-replicate}
use Rattle.silence.specs.Map.{silenced}
use Rattle.steps.specs.Tones.{Rising, Table, no_bits, total_power, KeepsLimits, KeepsBudget}
use Rattle.steps.specs.Runs.{set_bits}
use Rattle.steps.specs.Claims.{Demand3, SetBits}
use Rattle.steps.proofs.Sums.{sum-eq}
use Rattle.steps.proofs.Rising.{rising}
use Rattle.steps.proofs.Demand3.{demand-3}
use Rattle.steps.proofs.SetBits.{set-bits}
use Rattle.line.specs.declared.Steps.{Steps}
use Rattle.line.specs.Tone.{cost}
use Rattle.line.specs.Line.{Entry, undescribed, described, Line, gap_of, entry_of, entry_limit, entry_power, tones, rest_of, rest_total, EntryInRange, LineInRange, entry_steps, steps_at}
use Rattle.line.specs.Arrays.{power_in, step_size}
use Rattle.line.proofs.Growth.{power-is, power-grows, power_zero, power-one, step-rises}

-- the rest of a tone is no more than the power of 1 bit
rest_low : (g : ℕ) (e : Entry) (q : Bool) → EntryInRange g e → entry_power g e q 0 ≤ entry_power g e q 1
rest_low g undescribed true I = omega arith
rest_low g undescribed false I = omega arith
rest_low g (described t a) true I = omega arith
rest_low g (described t a) false I = omega (arith, I.1.rest.below_cost, power-one t (cost g t))

entry-grows : (g : ℕ) (e : Entry) (q : Bool) (b : ℕ) → EntryInRange g e → entry_power g e q b ≤ entry_power g e q (suc b)
entry-grows g e q zero I = rest_low g e q I
entry-grows g undescribed q (suc b) I = omega arith
entry-grows g (described t a) q (suc b) I = power-grows t (cost g t) (suc b)

-- the power of b bits by the code's account of a tone
abbrev power_by : Steps → (b : ℕ) → ℕ
power_by s b = power_in s.cost s.doublings s.rest b

-- the power of bits within the limit is that of the code's account
entry-power : (g : ℕ) (e : Entry) (q : Bool) (b : ℕ) → b ≤ entry_limit g e q → entry_power g e q b ≡ power_by (entry_steps g e q) b
entry-power g e true zero h = refl
entry-power g e true (suc b) h = absurd (omega arith)
entry-power g undescribed false zero h = refl
entry-power g undescribed false (suc b) h = absurd (omega arith)
entry-power g (described t a) false zero h = refl
entry-power g (described t a) false (suc b) h = power-is t (cost g t) (suc b)

-- the step at b bits by the code's account of a tone
abbrev step_by : Steps → (b : ℕ) → ℕ
step_by s b = step_size s.cost s.doublings s.rest b

entry-add-up : (g : ℕ) (e : Entry) (q : Bool) (b : ℕ) → EntryInRange g e → b < entry_limit g e q
    → entry_power g e q (suc b) ≡ entry_power g e q b + step_by (entry_steps g e q) b
entry-add-up g e q b I h =
    rw (← entry-power g e q (suc b) h, ← entry-power g e q b (omega arith)) (omega (arith, entry-grows g e q b I))

-- the steps of a tone rise; its rest makes the first one smaller yet
entry-rise : (g : ℕ) (e : Entry) (q : Bool) (b : ℕ) → EntryInRange g e → suc b < entry_limit g e q
    → step_by (entry_steps g e q) b < step_by (entry_steps g e q) (suc b)
entry-rise g e true b I h = omega arith
entry-rise g undescribed false b I h = omega arith
entry-rise g (described t a) false zero I h =
    let w = cost g t in
    rw (← power-is t w 1, ← power-is t w 2) (omega (arith, step-rises t w 0 I.0.cost.low, power_zero t w))
entry-rise g (described t a) false (suc b) I h =
    let w = cost g t in
    rw (← power-is t w (suc b), ← power-is t w (suc (suc b)), ← power-is t w (suc (suc (suc b)))) (step-rises t w (suc b) I.0.cost.low)

module _ (l : Line) (I : LineInRange l) where
  pub line-rising : Rising (tones l)
  line-rising =
      rising (tones l) (λ i b. step_by (steps_at l i) b)
      (λ i b il bl. entry-add-up (gap_of l) (entry_of l i) (silenced l.maps i) b (I.entries i il) bl)
      (λ i b il bl. entry-rise (gap_of l) (entry_of l i) (silenced l.maps i) b (I.entries i il) bl)

  -- the powers of a line are those of what the code keeps of its tones
  pub line-power : (i b : ℕ) → b ≤ (tones l).limit i → (tones l).power i b ≡ power_in (steps_at l i).cost (steps_at l i).doublings (steps_at l i).rest b
  line-power i b bl = entry-power (gap_of l) (entry_of l i) (silenced l.maps i) b bl

  pub no-bits-keep : KeepsLimits (tones l) (no_bits (tones l))
  no-bits-keep = record { sized = length-replicate l.size 0; under = λ i il. omega (arith, get_or-replicate {A = ℕ} l.size i 0 0 il) }

-- the table of no bits has the rests for its power
pub no-bits-total : (l : Line) → total_power (tones l) (no_bits (tones l)) ≡ rest_total l
no-bits-total l = sum-eq l.size _ (rest_of l) (λ i il. ap ((tones l).power i) (get_or-replicate {A = ℕ} l.size i 0 0 il))

-- so it keeps every budget that the rests keep
pub no-bits-fit : (l : Line) (budget : ℕ) → rest_total l ≤ budget → KeepsBudget (tones l) budget (no_bits (tones l))
no-bits-fit l budget h = omega (arith, no-bits-total l)

module _ (l : Line) (I : LineInRange l) (fits : rest_total l ≤ l.budget) where
  -- Demand 3, of every line in range whose rests keep the budget, and every starting table that keeps the limits.
  pub line-demand-3 : (t : Table) → KeepsLimits (tones l) t → Demand3 (tones l) l.budget t
  line-demand-3 = demand-3 (tones l) (line-rising l I) l.budget (no-bits-fit l l.budget fits)

  pub line-set-bits : (target : ℕ) → SetBits (tones l) l.budget target (set_bits (tones l) l.budget target)
  line-set-bits = set-bits (tones l) (line-rising l I) l.budget (no-bits-fit l l.budget fits)
