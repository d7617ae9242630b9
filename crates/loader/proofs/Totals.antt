-- What the call for many budgets promises besides its outcome: the totals for each budget, read back from the buffer that it leaves.
-- Assumes nothing.
use mathlib.Core.List.{List, ◌++◌}
use mathlib.Core.Path.{◌≡◌, ap, ◌∙◌}
use Prim.Native.Nat.{ℕ, ◌+◌, ◌*◌, ◌≤◌, ◌<◌}
use native.Mathlib.Omega.{arith}
use lib.ListN.{length, drop}
use Rattle.sizes.specs.Sizes.{totals_bytes}
use Rattle.bigendian.specs.Number.{number}
use Rattle.bigendian.proofs.Numbers.{number-front}
use Rattle.steps.specs.Tones.{◌!◌, total_bits, total_power}
use Rattle.steps.specs.Runs.{most_bits}
use Rattle.steps.specs.Claims.{Final}
use Rattle.steps.proofs.Sums.{sum-le}
use Rattle.steps.proofs.Final.{final-best}
use Rattle.steps.proofs.Demand3.{adding-final}
use Rattle.line.specs.Line.{Line, tones, LineInRange}
use Rattle.line.proofs.Loads.{line-rising, no-bits-fit}
use Rattle.line.proofs.Masks.{limits-high}
use Rattle.refusals.specs.Writing.{after_writing}
use Rattle.refusals.proofs.Writing.{fits}
use Rattle.loadings.specs.Loads.{load_answer}
use Rattle.budgetlist.specs.Budgets.{budget_of, budget_count}
use Rattle.sheet.specs.Reading.{accepted, said}
use Rattle.sheet.proofs.Sound.{Bytes, said-sound}
use Rattle.budgets.specs.Budgets.{with_budget, totals_bytes_of, judged_with, budgeting}
use Rattle.budgets.proofs.Laws.{Judged, judged-is, rests-keep, length-totals, bits-stand, power-stands}
use Rattle.loader.specs.Claims.{bits_at, power_at, BudgetMet, BudgetsOn}
use Rattle.loader.proofs.Promises.{most-is}

module _ (sheet : List ℕ) (b : Bytes sheet) (list old : List ℕ) {new : List ℕ} (n : new ≡ after_writing (budgeting sheet list (length old)) old)
    (l : Line) (e : judged_with list (said sheet) ≡ accepted l) (room : totals_bytes * budget_count list ≤ length old) (k : ℕ) (inside : k < budget_count list) where
  J : Judged list (said sheet) l
  J = judged-is list (said sheet) l e

  in_range : LineInRange l
  in_range = (said-sound sheet b l J.says).in_range

  -- where the loading with that budget ends
  final : Final (tones l) (budget_of list k) (most_bits (tones l) (budget_of list k)).table
  final = adding-final (tones l) (line-rising l in_range) (budget_of list k) (no-bits-fit l (budget_of list k) (rests-keep J k inside))

  -- the bytes stand at the buffer's start
  written : new ≡ totals_bytes_of list l ++ drop (length (totals_bytes_of list l)) old
  unfolding budgeting
  written = n ∙ rw (e, fits {room = length old} (totals_bytes_of list l) (omega (arith, length-totals list l)))

  -- so the totals are read back
  in_buffer : (at w : ℕ) → at + w ≤ totals_bytes * k + totals_bytes → number new at w ≡ number (totals_bytes_of list l) at w
  in_buffer at w h =
      ap (λ (s : List ℕ). number s at w) written
      ∙ number-front (totals_bytes_of list l) (drop (length (totals_bytes_of list l)) old) at w (omega (arith, length-totals list l))

  bits : bits_at new k ≡ total_bits (tones l) (most_bits (tones l) (budget_of list k)).table
  bits =
      let t = (most_bits (tones l) (budget_of list k)).table in
      in_buffer (totals_bytes * k) 4 (omega arith)
      ∙ bits-stand list l k inside (omega (arith, sum-le l.size (λ i. t ! i) (tones l).limit final.within.under, limits-high l in_range))

  power : power_at new k ≡ total_power (tones l) (most_bits (tones l) (budget_of list k)).table
  power =
      in_buffer (totals_bytes * k + 4) 8 (omega arith)
      ∙ power-stands list l k inside (omega (arith, final.tight.fits, J.right.high k inside))

  budget-met : BudgetMet l (budget_of list k) new k
  budget-met = record {
    bits = bits;
    power = power;
    limits = final.within;
    budget_kept = final.tight.fits;
    best = final-best (tones l) (line-rising l in_range) final;
    alone = λ s space a h. ap load_answer (most-is s space (with_budget (budget_of list k) l) a h) ∙ rw (bits, power);
  }

-- what is promised of the call's bytes besides that they are written
pub budgets-on : (sheet : List ℕ) → Bytes sheet → (list old : List ℕ) {new : List ℕ} → new ≡ after_writing (budgeting sheet list (length old)) old → BudgetsOn sheet list old new
budgets-on sheet b list old n = budget-met sheet b list old n
