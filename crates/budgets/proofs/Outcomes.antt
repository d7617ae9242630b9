-- Which outcome each test of the code leads to.
-- Assumes nothing.
use mathlib.Core.List.{List}
use mathlib.Core.Path.{◌≡◌, refl, sym, ap, ◌∙◌}
use Prim.Native.Nat.{ℕ, ◌*◌, ◌≤◌, ◌<◌}
use native.Mathlib.Omega.{arith}
use borrow.Author.Tests.{ltb-false}
use lib.Dec.{ltb}
use lib.ListN.{length}
use lib.Seq.{sets}
use Rattle.std.specs.Prelude.{Some, None, Result, Ok, Err}
use Rattle.sizes.specs.Sizes.{totals_bytes}
use Rattle.lists.proofs.Tests.{by-test}
use Rattle.line.specs.Line.{Line, rest_total}
use Rattle.refusals.specs.declared.Refusal.{Refusal}
use Rattle.refusals.specs.declared.Refusal.TheVariants.{DestinationTooSmall, RestsOverBudget}
use Rattle.refusals.specs.Writing.{Writing, writes, turned_down, write_answer}
use Rattle.refusals.proofs.Writing.{too_small, fits}
use Rattle.rows.specs.declared.Header.{Header}
use Rattle.budgetlist.specs.Budgets.{budget_of, budget_count, list_refusal}
use Rattle.sheet.specs.Reading.{Meaning, accepted, refused, said}
use Rattle.sheet.specs.declared.Index.{Index}
use Rattle.sheet.specs.Index.{Indexed}
use Rattle.sheet.specs.Writes.{writing}
use Rattle.sheet.proofs.Rests.{rests-kept, rests-over}
use Rattle.sheet.proofs.Writes.{WritingCall, only-writes, EndsAt, ends_at, written-ends}
use Rattle.budgets.specs.Budgets.{totals_bytes_of, judged_with, budgeting}
use Rattle.budgets.proofs.Laws.{judged-is, length-totals}

-- the call as one that only writes
abbrev pub totals-write : (list : List ℕ) → WritingCall (Result (Unit {0}) Refusal)
totals-write list = only-writes (totals_bytes_of list)

module _ (list : List ℕ) (l : Line) (room : ℕ) where
  abbrev outcome : Writing
  outcome = writing (totals_bytes_of list) (judged_with list (accepted l)) room

  pub list-refused : {q : Refusal} → list_refusal list ≡ Some q → outcome ≡ turned_down q
  list-refused e = rw e

  module _ (right : list_refusal list ≡ None) where
    pub rests-refused : budget_of list 0 < rest_total l → outcome ≡ turned_down RestsOverBudget
    rests-refused h = rw (right, rests-over (budget_of list 0) l h)

    module _ (kept : rest_total l ≤ budget_of list 0) where
      pub room-refused : room < totals_bytes * budget_count list → outcome ≡ turned_down DestinationTooSmall
      room-refused h = rw (right, rests-kept (budget_of list 0) l kept, too_small {room = room} (totals_bytes_of list l) (omega (arith, length-totals list l)))

      pub totals-written : totals_bytes * budget_count list ≤ room → outcome ≡ writes (totals_bytes_of list l)
      totals-written h = rw (right, rests-kept (budget_of list 0) l kept, fits {room = room} (totals_bytes_of list l) (omega (arith, length-totals list l)))

  -- ---- the other way round: what the answer tells

  pub told-refused : {q : Refusal} → Err q ≡ write_answer outcome → outcome ≡ turned_down q
  told-refused {q} e = by outcome e
    where
      by : (w : Writing) → Err q ≡ write_answer w → w ≡ turned_down q
      by (writes bytes) f = absurd (cc)
      by (turned_down p) f = cc

  -- the list is right, the rests keep its first budget, and there is room
  pub record Told : Type 0 where
    pub judged : judged_with list (accepted l) ≡ accepted l
    pub room_enough : totals_bytes * budget_count list ≤ room

  pub told-written : Ok tt ≡ write_answer outcome → Told
  told-written e = by (judged_with list (accepted l)) (λ k f. f) e
    where
      by : (m : Meaning) → ((k : Line) → m ≡ accepted k → judged_with list (accepted l) ≡ accepted k) → Ok tt ≡ write_answer (writing (totals_bytes_of list) m room) → Told
      by (refused q) is f = absurd (cc)
      by (accepted k) is f =
          let same : l ≡ k = cc (judged-is list (accepted l) k (is k (cc))).says in
          by-test (λ (w : Writing). Ok tt ≡ write_answer w → Told) (ltb room (length (totals_bytes_of list k))) (λ t g. absurd (cc))
          (λ t g. record {
            judged = is k (cc) ∙ ap accepted (sym same);
            room_enough = omega (arith, ltb-false room (length (totals_bytes_of list k)) t, length-totals list k);
          })
          f

-- the line that the bytes say is the one that is indexed
pub only-line : {s : List ℕ} {h : Header} {i : Index} (x : Indexed s h i) {l : Line} → said s ≡ accepted l → (list : List ℕ)
    → judged_with list (accepted x.line) ≡ accepted x.line → judged_with list (accepted l) ≡ accepted l
only-line x {l} e list j =
    let same : x.line ≡ l = cc x.means in
    rw same at j

-- ---- how the call ends, of the line that the bytes say

module _ (s list : List ℕ) {l : Line} (means : said s ≡ accepted l) (out : List ℕ) where
  -- refused after what the bytes say
  pub refusal-ends : {q : Refusal} → writing (totals_bytes_of list) (judged_with list (accepted l)) (length out) ≡ turned_down q
      → EndsAt (totals-write list) (budgeting s list (length out)) out out (Err q)
  unfolding budgeting
  refusal-ends {q} e = rw (means, e) (ends_at (totals-write list) (turned_down q) out refl refl)

  pub writing-ends : Told list l (length out) → {out' : List ℕ} → out' ≡ sets out 0 (totals_bytes_of list l)
      → EndsAt (totals-write list) (budgeting s list (length out)) out out' (Ok tt)
  unfolding budgeting
  writing-ends t e = rw (means, e) (written-ends (totals-write list) t.judged out (omega (arith, length-totals list l, t.room_enough)) refl)

-- ---- a buffer of no bytes

-- it has room for no totals, so the call is turned down
pub record TurnedDown (w : Writing) : Type 0 where
  pub why : Refusal
  pub is : w ≡ turned_down why

pub no_bytes : (s list : List ℕ) → TurnedDown (budgeting s list 0)
unfolding budgeting
no_bytes s list = by (judged_with list (said s)) (λ l e. (judged-is list (said s) l e).right.some)
  where
    by : (m : Meaning) → ((l : Line) → m ≡ accepted l → 0 < budget_count list) → TurnedDown (writing (totals_bytes_of list) m 0)
    by (refused q) f = record { why = q; is = refl }
    by (accepted l) f = record {
      why = DestinationTooSmall;
      is = too_small {room = 0} (totals_bytes_of list l) (omega (arith, length-totals list l, f l refl));
    }
