-- The limit of a tone is what document 01 calls it, and the number of bits at which the search stops; what stops it is what set the limit, and
-- says how many powers were tried.
-- Assumes nothing.
use mathlib.Core.Path.{◌≡◌}
use Prim.Native.Nat.{ℕ, suc, ◌≤◌, ◌<◌}
use native.Mathlib.Nat.{le_of_suc-le-suc, lt_of_not-le, not-le_of_lt, le_trans}
use native.Mathlib.Decide.{dec_le, le_ind}
use native.Mathlib.Omega.{arith}
use borrow.Author.Tests.{lt-ltb, le-leb, lt-leb, eq-eqb, ne_eqb}
use Rattle.line.specs.declared.Kind.{Kind}
use Rattle.line.specs.declared.Kind.TheVariants.{Pair, Single, Read}
use Rattle.line.specs.declared.Tone.{Tone}
use Rattle.line.specs.declared.SetBy.TheVariants.{Cap, Mask}
use Rattle.line.specs.declared.Limit.{Limit}
use Rattle.line.specs.Tone.{bounds_of, is_single, most_cap, BoundsInRange, power, limit, set_by, limit_of}
use Rattle.line.specs.Tries.{tries}
use Rattle.line.proofs.Largest.{Largest, largest-is, largest-unique}
use Rattle.line.proofs.Growth.{power_zero, power-grows}

most_cap-high : (k : Kind) → most_cap (is_single k) ≤ 15
most_cap-high (Pair n) = omega arith
most_cap-high (Single n) = omega arith
most_cap-high (Read n) = omega arith

pub cap_high : {t : Tone} → BoundsInRange t → (bounds_of t).cap ≤ 15
cap_high {t} I = omega (arith, I.cap_high, most_cap-high t.kind)

module _ (t : Tone) (w : ℕ) where
  pub power-mono : {b c : ℕ} → b ≤ c → power t w b ≤ power t w c
  power-mono {b} {c} h =
      le_ind (λ (n : ℕ). power t w b ≤ power t w n) (omega arith) (λ n l p. le_trans p (power-grows t w n)) c h

  -- 'the largest b that is at most the cap and has power at most the mask'
  pub limit_is : Largest (λ b. power t w b ≤ (bounds_of t).mask) (bounds_of t).cap (limit t w)
  unfolding limit
  limit_is = largest-is (λ b. dec_le (power t w b) (bounds_of t).mask) (omega (arith, power_zero t w)) (bounds_of t).cap

  -- b bits are within the cap and the mask
  pub record Allowed (b : ℕ) : Type 0 where
    pub at_most : b ≤ (bounds_of t).cap
    pub under : power t w b ≤ (bounds_of t).mask

  -- the mask does not allow one bit more
  mask-limit : {b : ℕ} → Allowed b → (bounds_of t).mask < power t w (suc b) → limit t w ≡ b
  mask-limit {b} A over = largest-unique limit_is stopped
    where
      stopped : Largest (λ c. power t w c ≤ (bounds_of t).mask) (bounds_of t).cap b
      stopped = record {
        at_most = A.at_most;
        passes = A.under;
        most = λ k l p. le_of_suc-le-suc (lt_of_not-le {n = suc b} {m = k} (λ h. not-le_of_lt over (le_trans (power-mono h) p)));
      }

  pub mask-stops : {b : ℕ} → Allowed b → b < (bounds_of t).cap → (bounds_of t).mask < power t w (suc b) → ◌≡◌ {A = Limit} (record { bits = b; by = Mask }) (limit_of t w)
  unfolding set_by
  mask-stops {b} A below over =
      simp (mask-limit A over, le-leb (suc b) (bounds_of t).cap below, lt-ltb (bounds_of t).mask (power t w (suc b)) over)

  pub mask-tries : {b : ℕ} → Allowed b → b < (bounds_of t).cap → (bounds_of t).mask < power t w (suc b) → suc b ≡ tries t w
  unfolding tries
  mask-tries {b} A below over = simp (mask-limit A over, ne_eqb b (bounds_of t).cap (λ e. omega (arith, e)))

  -- the cap does not
  cap-limit : {b : ℕ} → Allowed b → (bounds_of t).cap ≤ b → limit t w ≡ b
  cap-limit {b} A full =
      largest-unique limit_is (record { at_most = A.at_most; passes = A.under; most = λ k l p. omega arith })

  pub cap-stops : {b : ℕ} → Allowed b → (bounds_of t).cap ≤ b → ◌≡◌ {A = Limit} (record { bits = b; by = Cap }) (limit_of t w)
  unfolding set_by
  cap-stops {b} A full = simp (cap-limit A full, lt-leb (suc b) (bounds_of t).cap (omega arith))

  pub cap-tries : {b : ℕ} → Allowed b → (bounds_of t).cap ≤ b → b ≡ tries t w
  unfolding tries
  cap-tries {b} A full = simp (cap-limit A full, eq-eqb b (bounds_of t).cap (omega (arith, A.at_most)))
