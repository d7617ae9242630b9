-- The smallest number that passes a test.
-- Assumes nothing.
use mathlib.Core.Path.{◌≡◌}
use mathlib.Core.Logic.{ite}
use Prim.Native.Nat.{ℕ, zero, suc, ◌+◌, ◌≤◌, ◌<◌}
use native.Mathlib.Decide.{ℕ_discrete}
use native.Mathlib.Omega.{arith}
use Rattle.gaps.specs.Gap.{Smallest, smallest}

-- `smallest` is what it is called, where none below k passes and one of the numbers that it looks at does
module _ {P : ℕ → Type 0} (test : (g : ℕ) → Dec (P g)) (m : ℕ) (p : P m) where
  pub smallest-is : (n k : ℕ) → ((j : ℕ) → P j → k ≤ j) → m < k + n → Smallest P (smallest test n k)
  unfolding smallest
  smallest-is zero k below h = absurd (omega (arith, below m p))
  smallest-is (suc n) k below h = go (test k) (λ f. smallest-is n (suc k) f (omega arith))
    where
      go : (d : Dec (P k)) → (((j : ℕ) → P j → suc k ≤ j) → Smallest P (smallest test n (suc k))) → Smallest P (ite d k (smallest test n (suc k)))
      go (yes q) on = record { passes = q; least = below }
      go (no r) on = on (λ j q. beyond j q (ℕ_discrete k j))
        where
          beyond : (j : ℕ) → P j → Dec (k ≡ j) → suc k ≤ j
          beyond j q (yes e) = absurd (r (rw e q))
          beyond j q (no e) = omega (arith, below j q)

-- two numbers that are the smallest are one
pub smallest-unique : {P : ℕ → Type 0} {a b : ℕ} → Smallest P a → Smallest P b → a ≡ b
smallest-unique {P} {a} {b} A B = omega (arith, A.least b B.passes, B.least a A.passes)
