-- The largest number that passes a test.
-- Assumes nothing.
use mathlib.Core.Path.{◌≡◌}
use mathlib.Core.Logic.{ite}
use Prim.Native.Nat.{ℕ, zero, suc, ◌≤◌}
use native.Mathlib.Decide.{dec_le}
use native.Mathlib.Omega.{arith}
use Rattle.line.specs.Tone.{largest}

-- `largest` is what it is called, where 0 passes
pub record Largest (P : ℕ → Type 0) (n b : ℕ) : Type 0 where
  pub at_most : b ≤ n
  pub passes : P b
  pub most : (k : ℕ) → k ≤ n → P k → k ≤ b

module _ {P : ℕ → Type 0} (test : (b : ℕ) → Dec (P b)) (zero-passes : P 0) where
  pub largest-is : (n : ℕ) → Largest P n (largest test n)
  unfolding largest
  largest-is zero = record { at_most = omega arith; passes = zero-passes; most = λ k l p. l }
  largest-is (suc n) = go (test (suc n)) (largest-is n)
    where
      go : (d : Dec (P (suc n))) → Largest P n (largest test n) → Largest P (suc n) (ite d (suc n) (largest test n))
      go (yes p) L = record { at_most = omega arith; passes = p; most = λ k l q. l }
      go (no m) L = record { at_most = omega (arith, L.at_most); passes = L.passes; most = λ k l q. below k l q (dec_le k n) }
        where
          below : (k : ℕ) → k ≤ suc n → P k → Dec (k ≤ n) → k ≤ largest test n
          below k l q (yes h) = L.most k h q
          below k l q (no h) = absurd (m (let e : k ≡ suc n = omega arith in rw e at q))

-- two numbers that are the largest are one
pub largest-unique : {P : ℕ → Type 0} {n b c : ℕ} → Largest P n b → Largest P n c → b ≡ c
largest-unique {P} {n} {b} {c} B C = omega (arith, B.most c C.at_most C.passes, C.most b B.at_most B.passes)
