-- A set number of bits at the least power; and refusal 11 exactly where no table within limits and budget carries the target.
-- Assumes nothing.
use mathlib.Core.Path.{◌≡◌, refl, sym, ◌∙◌}
use mathlib.Core.Logic.{ite}
use mathlib.Core.Option.{Option, none, some}
use Prim.Native.Nat.{ℕ, ◌-◌, ◌≤◌, ◌<◌}
use native.Mathlib.Decide.{dec_lt, ℕ_discrete}
use native.Mathlib.Omega.{arith}
use Rattle.steps.specs.Tones.{Tones, Rising, Table, ◌!◌, no_bits, total_bits, sum_of_limits, KeepsBudget}
use Rattle.steps.specs.Runs.{Answer, moved, finished, add_step, add_step_to, run, carrying, set_bits}
use Rattle.steps.specs.Claims.{Carries, SetBits}
use Rattle.steps.proofs.Sums.{sum-le, sum-zero}
use Rattle.steps.proofs.Final.{efficient-least, final-best}
use Rattle.steps.proofs.Run.{Ends, run_ends}
use Rattle.steps.proofs.Demand3.{Adding, add-moves, add-finished, no-bits-at, adding-starts}

module _ (T : Tones) (budget target : ℕ) where
  -- what holds between the steps that add up to the target
  record Aiming (n : ℕ) (t : Table) : Type 0 where
    adding : Adding T budget n t
    short : total_bits T t ≤ target

  to-moved : (t : Table) {u : Table} → add_step_to T budget target t ≡ moved u → (total_bits T t < target) × (add_step T budget t ≡ moved u)
  unfolding add_step_to
  to-moved t {u} = go (dec_lt (total_bits T t) target)
    where
      go : (d : Dec (total_bits T t < target)) → ◌≡◌ {A = Answer} (ite d (add_step T budget t) finished) (moved u) → (total_bits T t < target) × (add_step T budget t ≡ moved u)
      go (yes q) e = (q, e)
      go (no m) e = absurd (let z : ◌≡◌ {A = ℕ} 0 1 = cc in omega arith)

  to-finished : (t : Table) → add_step_to T budget target t ≡ finished → total_bits T t < target → add_step T budget t ≡ finished
  unfolding add_step_to
  to-finished t = go (dec_lt (total_bits T t) target)
    where
      go : (d : Dec (total_bits T t < target)) → ◌≡◌ {A = Answer} (ite d (add_step T budget t) finished) finished → total_bits T t < target → add_step T budget t ≡ finished
      go (yes q) e l = e
      go (no m) e l = absurd (m l)

module _ (T : Tones) (R : Rising T) (budget : ℕ) (base : KeepsBudget T budget (no_bits T)) (target : ℕ) where
  to-ends : Ends (add_step_to T budget target) (Aiming T budget target) (sum_of_limits T) (no_bits T) (run (add_step_to T budget target) (sum_of_limits T) (no_bits T))
  to-ends =
      run_ends (add_step_to T budget target) (Aiming T budget target) aims _ (sum_of_limits T) (no_bits T) (omega arith)
      (record { adding = adding-starts T R budget base; short = omega (arith, sum-zero T.count (λ i. no_bits T ! i) (no-bits-at T R budget base)) })
    where
      aims : (n : ℕ) (t u : Table) → Aiming T budget target n t → add_step_to T budget target t ≡ moved u → (0 < n) × Aiming T budget target (n - 1) u
      aims n t u A e =
          let m = to-moved T budget target t e in
          let f = add-moves T R budget base A.adding m.1 in
          (f.0, record { adding = f.1; short = omega arith })

  pub set-bits : SetBits T budget target (set_bits T budget target)
  unfolding set_bits carrying
  set-bits = go (ℕ_discrete (total_bits T last) target)
    where
      last : Table
      last = (run (add_step_to T budget target) (sum_of_limits T) (no_bits T)).table

      A : Adding T budget to-ends.left last
      A = to-ends.good.adding

      -- with fewer bits than the target the run has ended in the loading for most bits
      none-carries : ¬ (total_bits T last ≡ target) → (u : Table) → ¬ Carries T budget target u
      none-carries m u c =
          let l : total_bits T last < target = omega (arith, to-ends.good.short) in
          omega (arith, (final-best T R (add-finished T R budget base A (to-finished T budget target last to-ends.stops l))).most u c.within c.fits, c.exact)

      go : (d : Dec (total_bits T last ≡ target)) → SetBits T budget target (ite d (some last) none)
      go (yes e) = record {
        carries = record { within = A.within; fits = A.fits; exact = e };
        least = λ u v b. efficient-least T R A.within A.efficient u v (b ∙ sym e);
      }
      go (no m) = none-carries m

-- a target above the sum of the limits is carried at no budget
pub too_many : (T : Tones) → Rising T → (budget : ℕ) → KeepsBudget T budget (no_bits T) → (target : ℕ) → sum_of_limits T < target → set_bits T budget target ≡ none
too_many T R budget base target h = go (set_bits T budget target) (set-bits T R budget base target)
  where
    go : (o : Option Table) → SetBits T budget target o → o ≡ none
    go none s = refl
    go (some t) s =
        absurd (omega (arith, s.carries.exact, sum-le T.count (λ i. t ! i) T.limit s.carries.within.under))
