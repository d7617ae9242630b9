-- A re-fit by as many moves as a line can have bits is the whole re-fit, and by at most one is the single step.
-- Assumes nothing.
use mathlib.Core.Bool.{Bool, true, false, cond}
use mathlib.Core.List.{List}
use mathlib.Core.Path.{◌≡◌, refl, ap}
use Prim.Native.Nat.{ℕ, ◌≤◌}
use borrow.Author.Tests.{eqb-true}
use lib.Dec.{eqb}
use lib.ListN.{length}
use Rattle.std.specs.Prelude.{Option, Some, None}
use Rattle.sizes.specs.Sizes.{most_bits_of_all}
use Rattle.steps.specs.Tones.{Tones, Rising, no_bits, sum_of_limits, KeepsLimits, KeepsBudget}
use Rattle.steps.specs.Runs.{Ran, refit_step}
use Rattle.steps.proofs.Enough.{refit-enough}
use Rattle.refusals.specs.declared.Refusal.TheVariants.{StartLengthWrong}
use Rattle.starts.specs.Starts.{first_above}
use Rattle.starts.proofs.First.{none-keeps}
use Rattle.loadings.specs.Loads.{Loading, loaded, turned_down, if_room}
use Rattle.loadings.specs.Refits.{on_above, refit_to, refit_on, step_on, refit_up_to}
use Rattle.loadings.proofs.Runs.{one-move}

-- runs that agree from every starting table within the limits lead to the same outcome
same-refit : (T : Tones) (start : List ℕ) (room : ℕ) {a b : Ran} → (KeepsLimits T start → a ≡ b) → refit_to T start a room ≡ refit_to T start b room
same-refit T start room {a} {b} same =
    ap (if_room T room) (by_length (eqb (length start) T.count) (λ e. by-above (eqb-true (length start) T.count e) (first_above T start T.count) (λ n. n)))
  where
    by-above : length start ≡ T.count → (o : Option ℕ) → (o ≡ None → first_above T start T.count ≡ None) → on_above o (loaded T a) ≡ on_above o (loaded T b)
    by-above e None f = ap (loaded T) (same (none-keeps T start e (f refl)))
    by-above e (Some i) f = refl

    by_length : (t : Bool) {x y : Loading} → (t ≡ true → x ≡ y) → cond t x (turned_down StartLengthWrong) ≡ cond t y (turned_down StartLengthWrong)
    by_length true f = f refl
    by_length false f = refl

pub whole-refit : (T : Tones) → Rising T → sum_of_limits T ≤ most_bits_of_all → (budget : ℕ) → KeepsBudget T budget (no_bits T) → (start : List ℕ) (room : ℕ)
    → refit_up_to most_bits_of_all T budget start room ≡ refit_on T budget start room
unfolding refit_up_to refit_on
whole-refit T rises high budget fits start room =
    same-refit T start room (λ w. refit-enough T rises budget fits w most_bits_of_all high)

pub single_step : (T : Tones) (budget : ℕ) (start : List ℕ) (room : ℕ) → refit_up_to 1 T budget start room ≡ step_on T budget start room
unfolding refit_up_to step_on
single_step T budget start room = ap (λ r. refit_to T start r room) (one-move (refit_step T budget) start)
