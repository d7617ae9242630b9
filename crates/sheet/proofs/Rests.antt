-- The two steps of reading a sheet: what its bytes say, and refusal 16.
-- Assumes nothing.
use mathlib.Core.List.{List}
use mathlib.Core.Path.{◌≡◌, refl}
use Prim.Native.Nat.{ℕ, ◌≤◌, ◌<◌}
use native.Mathlib.Omega.{arith}
use borrow.Author.Tests.{lt-ltb, le-ltb, ltb-false}
use lib.Dec.{ltb}
use Rattle.lists.proofs.Tests.{by-test}
use Rattle.line.specs.Line.{Line, rest_total}
use Rattle.refusals.specs.declared.Refusal.{Refusal}
use Rattle.refusals.specs.declared.Refusal.TheVariants.{RestsOverBudget}
use Rattle.command.specs.Format.{Format}
use Rattle.sheet.specs.Reading.{Meaning, accepted, refused, rests_within, rests_judged, said_in, reading_in}

-- a refusal is no line
pub never : {P : Type 0} {q : Refusal} {l : Line} → refused q ≡ accepted l → P
never e =
    let z : ◌≡◌ {A = ℕ} 0 1 = cc in
    absurd (omega arith)

pub rests-kept : (budget : ℕ) (l : Line) → rest_total l ≤ budget → rests_within budget l ≡ accepted l
rests-kept budget l h = rw (le-ltb budget (rest_total l) h)

pub rests-over : (budget : ℕ) (l : Line) → budget < rest_total l → rests_within budget l ≡ refused RestsOverBudget
rests-over budget l h = rw (lt-ltb budget (rest_total l) h)

-- what is accepted within a budget is the line that was judged, and its rests keep it
pub within-budget : (budget : ℕ) (k l : Line) → rests_within budget k ≡ accepted l → (k ≡ l) × (rest_total k ≤ budget)
within-budget budget k l =
    by-test (λ (m : Meaning). m ≡ accepted l → (k ≡ l) × (rest_total k ≤ budget)) (ltb budget (rest_total k)) (λ t e. never e)
    (λ t e. (cc, ltb-false budget (rest_total k) t))

-- what is accepted is what the bytes say, and its rests keep the budget
pub record Accepted (F : Format) (s : List ℕ) (l : Line) : Type 0 where
  pub says : said_in F s ≡ accepted l
  pub fits : rest_total l ≤ l.budget

pub accepted-is : (F : Format) (s : List ℕ) (l : Line) → reading_in F s ≡ accepted l → Accepted F s l
unfolding reading_in
accepted-is F s l e = by (said_in F s) refl e
  where
    by : (m : Meaning) → said_in F s ≡ m → rests_judged m ≡ accepted l → Accepted F s l
    by (refused q) is f = never f
    by (accepted k) is f =
        let kept = within-budget k.budget k l f in
        let here : Accepted F s k = record { says = is; fits = kept.1 } in
        rw kept.0 at here

module _ (F : Format) (s : List ℕ) where
  pub is-accepted : (l : Line) → said_in F s ≡ accepted l → rest_total l ≤ l.budget → reading_in F s ≡ accepted l
  unfolding reading_in
  is-accepted l e h = rw (e, rests-kept l.budget l h)

  pub reading-said : (m : Meaning) → said_in F s ≡ m → reading_in F s ≡ rests_judged m
  unfolding reading_in
  reading-said m e = rw e
