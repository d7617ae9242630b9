-- What a call that is not turned down has of its sheet and its list, how many bytes the totals take, and where each budget's stand.
-- Assumes nothing.
use mathlib.Core.List.{List, ◌++◌}
use mathlib.Core.Path.{◌≡◌, refl, ap, ◌∙◌}
use Prim.Native.Nat.{ℕ, ◌+◌, ◌*◌, ◌^◌, ◌≤◌, ◌<◌}
use native.Mathlib.Omega.{arith}
use lib.ListN.{length, length-append}
use Rattle.std.specs.Prelude.{Option, Some, None}
use Rattle.sizes.specs.Sizes.{totals_bytes}
use Rattle.lists.proofs.Joined.{length-even}
use Rattle.bigendian.specs.Number.{number, bytes}
use Rattle.bigendian.proofs.Numbers.{number-front, number-back, length-bytes, number-bytes}
use Rattle.bigendian.proofs.Parts.{number-in-part}
use Rattle.steps.specs.Tones.{Tones, total_bits, total_power}
use Rattle.steps.specs.Runs.{most_bits}
use Rattle.steps.specs.Passes.{NoneFalls}
use Rattle.steps.proofs.Passes.{none_below}
use Rattle.line.specs.Line.{Line, rest_total, tones}
use Rattle.refusals.specs.declared.Refusal.{Refusal}
use Rattle.budgetlist.specs.Budgets.{budget_of, budget_count, list_refusal}
use Rattle.budgetlist.proofs.Laws.{RightList, right-list}
use Rattle.sheet.specs.Reading.{Meaning, accepted, refused}
use Rattle.sheet.proofs.Rests.{never, within-budget}
use Rattle.budgets.specs.Budgets.{totals_for, totals_bytes_of, on_list, judged_with}

-- ---- what is accepted

-- it is what the bytes of the sheet say, the list is right, and the rests keep its first budget
pub record Judged (list : List ℕ) (m : Meaning) (l : Line) : Type 0 where
  pub says : m ≡ accepted l
  pub right : RightList list
  pub fits : rest_total l ≤ budget_of list 0

pub judged-is : (list : List ℕ) (m : Meaning) (l : Line) → judged_with list m ≡ accepted l → Judged list m l
judged-is list (refused q) l e = never e
judged-is list (accepted k) l e = by (list_refusal list) refl e
  where
    by : (o : Option Refusal) → list_refusal list ≡ o → on_list o (budget_of list 0) k ≡ accepted l → Judged list (accepted k) l
    by (Some q) is f = never f
    by None is f =
        let kept = within-budget (budget_of list 0) k l f in
        record { says = ap accepted kept.0; right = right-list list is; fits = rw kept.0 at kept.1 }

-- no budget of a right list is below the one before it
pub none_falls : {list : List ℕ} → RightList list → NoneFalls (budget_of list) (budget_count list)
none_falls R = record { no_fall = R.no_fall }

-- so the rests keep each
pub rests-keep : {list : List ℕ} {m : Meaning} {l : Line} → Judged list m l → (k : ℕ) → k < budget_count list → rest_total l ≤ budget_of list k
rests-keep J k h = omega (arith, J.fits, none_below (none_falls J.right) k h)

-- ---- the bytes

-- two numbers of 4 and 8 bytes
length-pair : (a b : ℕ) → length (bytes 4 a ++ bytes 8 b) ≡ totals_bytes
length-pair a b = simp length-append (omega (arith, length-bytes 4 a, length-bytes 8 b))

-- the 12 bytes of a budget, and the totals that they spell if these fit
module _ (T : Tones) (budget : ℕ) where
  abbrev pub bits_for : ℕ
  bits_for = total_bits T (most_bits T budget).table

  abbrev pub power_for : ℕ
  power_for = total_power T (most_bits T budget).table

  pub length-totals-for : length (totals_for T budget) ≡ totals_bytes
  length-totals-for = length-pair _ _

  bits-spelt : bits_for < 256 ^ 4 → number (totals_for T budget) 0 4 ≡ bits_for
  bits-spelt h = number-front (bytes 4 bits_for) (bytes 8 power_for) 0 4 (omega (arith, length-bytes 4 bits_for)) ∙ number-bytes 4 bits_for h

  power-spelt : power_for < 256 ^ 8 → number (totals_for T budget) 4 8 ≡ power_for
  power-spelt h = number-back (bytes 4 bits_for) (bytes 8 power_for) 0 8 4 (omega (arith, length-bytes 4 bits_for)) ∙ number-bytes 8 power_for h

-- those of all budgets
pub length-totals : (list : List ℕ) (l : Line) → length (totals_bytes_of list l) ≡ totals_bytes * budget_count list
length-totals list l = length-even _ totals_bytes (λ k. length-totals-for (tones l) (budget_of list k)) (budget_count list)

-- the totals for budget k stand at 12 × k, bits before power
module _ (list : List ℕ) (l : Line) (k : ℕ) (inside : k < budget_count list) where
  in-totals : (j w at : ℕ) → j + w ≤ totals_bytes → at ≡ totals_bytes * k + j → number (totals_bytes_of list l) at w ≡ number (totals_for (tones l) (budget_of list k)) j w
  in-totals j w at = number-in-part _ totals_bytes (λ i. length-totals-for (tones l) (budget_of list i)) (budget_count list) k j w at inside

  pub bits-stand : bits_for (tones l) (budget_of list k) < 256 ^ 4 → number (totals_bytes_of list l) (totals_bytes * k) 4 ≡ bits_for (tones l) (budget_of list k)
  bits-stand h = in-totals 0 4 (totals_bytes * k) (omega arith) (omega arith) ∙ bits-spelt (tones l) (budget_of list k) h

  pub power-stands : power_for (tones l) (budget_of list k) < 256 ^ 8 → number (totals_bytes_of list l) (totals_bytes * k + 4) 8 ≡ power_for (tones l) (budget_of list k)
  power-stands h = in-totals 4 8 (totals_bytes * k + 4) (omega arith) (omega arith) ∙ power-spelt (tones l) (budget_of list k) h
