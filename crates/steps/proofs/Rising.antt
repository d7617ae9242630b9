-- Any strictly rising list of steps: where it adds up to the powers, it is the list of the steps, and the powers are its sums.
-- Assumes nothing.
use mathlib.Core.Path.{◌≡◌}
use Prim.Native.Nat.{ℕ, zero, suc, ◌+◌, ◌≤◌, ◌<◌}
use native.Mathlib.Omega.{arith}
use Rattle.steps.specs.Tones.{Tones, step, Rising, sum}
use Rattle.steps.proofs.Order.{adds}

module _ (T : Tones) (steps : ℕ → ℕ → ℕ)
    (add-up : (i b : ℕ) → i < T.count → b < T.limit i → T.power i (suc b) ≡ T.power i b + steps i b)
    (rise : (i b : ℕ) → i < T.count → suc b < T.limit i → steps i b < steps i (suc b)) where
  pub step_is : (i b : ℕ) → i < T.count → b < T.limit i → step T i b ≡ steps i b
  unfolding step
  step_is i b il bl = omega (arith, add-up i b il bl)

  pub rising : Rising T
  rising = record {
    grows = λ i b il bl. omega (arith, add-up i b il bl);
    rises = λ i b il bl. omega (arith, rise i b il bl, step_is i b il (omega arith), step_is i (suc b) il bl);
  }

-- the power of b bits is the power of no bits and the first b steps
pub steps-add-up : (T : Tones) → Rising T → (i b : ℕ) → i < T.count → b ≤ T.limit i → T.power i b ≡ T.power i 0 + sum b (step T i)
unfolding sum
steps-add-up T R i zero il bl = omega arith
steps-add-up T R i (suc b) il bl = omega (arith, steps-add-up T R i b il (omega arith), adds T R i b il bl)
