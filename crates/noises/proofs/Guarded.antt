-- The guarded loading: the loading for most bits at the high noises keeps limits and budget at every noise inside the ranges, and is the best
-- of the tables that do.
-- Assumes nothing.
use Prim.Native.Nat.{ℕ, ◌≤◌}
use native.Mathlib.Nat.{le_trans}
use native.Mathlib.Omega.{arith}
use Rattle.steps.specs.Tones.{Rising, Table, KeepsLimits, KeepsBudget}
use Rattle.steps.specs.Runs.{most_bits}
use Rattle.steps.specs.Claims.{Final, Best}
use Rattle.steps.proofs.Final.{final-best}
use Rattle.steps.proofs.Demand3.{adding-final}
use Rattle.line.specs.Line.{Line, tones, rest_total, LineInRange}
use Rattle.line.proofs.Loads.{line-rising, no-bits-fit}
use Rattle.noises.specs.Noises.{high_noise, Inside, with_noises, at_high}
use Rattle.noises.specs.Claims.{Dearer, Guards, BestGuarded}
use Rattle.noises.proofs.Chosen.{chosen-rests, chosen-in-range, high-inside}
use Rattle.noises.proofs.Dearer.{dearer, keeps-cheaper, power-cheaper}

module _ (l : Line) (I : LineInRange l) where
  -- the line at its high noises is dearer than at any other noises inside the ranges
  high-dearer : (choice : ℕ → ℕ) → Inside l choice → Dearer (tones (with_noises choice l)) (tones (at_high l))
  high-dearer choice C = dearer l I choice (high_noise l) C.high

  -- its steps rise there
  high-rising : Rising (tones (at_high l))
  high-rising = line-rising (at_high l) (chosen-in-range l I (high_noise l) (high-inside l I))

  -- what keeps limits and budget there keeps them at every choice
  high-guards : (t : Table) → KeepsLimits (tones (at_high l)) t → KeepsBudget (tones (at_high l)) l.budget t → Guards l t
  high-guards t K B = record {
    limits = λ choice C. keeps-cheaper _ _ (high-dearer choice C) t K;
    budget = λ choice C. le_trans (power-cheaper _ _ (high-dearer choice C) t) B;
  }

  -- where its rests keep the budget, the loading for most bits there is the best of the tables that do
  pub best-guarded : rest_total l ≤ l.budget → BestGuarded l (most_bits (tones (at_high l)) l.budget).table
  best-guarded fits = record {
    guards = high-guards _ F.within F.tight.fits;
    most = λ u G. B.most u (G.limits (high_noise l) inside) (G.budget (high_noise l) inside);
    least = λ u G. B.least u (G.limits (high_noise l) inside) (G.budget (high_noise l) inside);
  }
    where
      inside : Inside l (high_noise l)
      inside = high-inside l I

      F : Final (tones (at_high l)) l.budget (most_bits (tones (at_high l)) l.budget).table
      F = adding-final (tones (at_high l)) high-rising l.budget (no-bits-fit (at_high l) l.budget (omega (arith, chosen-rests (high_noise l) l)))

      B : Best (tones (at_high l)) l.budget (most_bits (tones (at_high l)) l.budget).table
      B = final-best (tones (at_high l)) high-rising F
