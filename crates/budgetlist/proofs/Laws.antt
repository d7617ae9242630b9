-- What is wrong with a list of budgets, fact by fact; and what a caller has of a list that is not refused.
-- Assumes nothing.
use mathlib.Core.Bool.{true, false, ◌||◌, or-true, or-false}
use mathlib.Core.List.{List}
use mathlib.Core.Path.{◌≡◌, refl, sym, ◌∙◌}
use Prim.Native.Nat.{ℕ, zero, suc, ◌*◌, ◌%◌, ◌≤◌, ◌<◌}
use native.Mathlib.Omega.{arith}
use borrow.Author.Tests.{ltb-true, ltb-false, leb-true, eqb-true, lt-ltb, le-ltb, le-leb, eq-eqb}
use lib.Dec.{ltb}
use lib.ListN.{length}
use Rattle.std.specs.Prelude.{Option, Some, None, Ok, Err}
use Rattle.sizes.specs.Sizes.{most_power, most_budgets, budget_bytes}
use Rattle.lists.specs.First.{first}
use Rattle.lists.proofs.First.{First, first-is}
use Rattle.lists.proofs.Tests.{by-test, both-pass, neither-passes}
use Rattle.refusals.specs.declared.Refusal.{Refusal}
use Rattle.refusals.specs.declared.Refusal.TheVariants.{OperandOutOfRange}
use Rattle.budgetlist.specs.Budgets.{budget_of, budget_count, is_length, is_fault, at_entry, list_refusal, list_answer}

module _ (list : List ℕ) where
  -- the budget before entry k; 0 before the first
  abbrev pub last_of : (k : ℕ) → ℕ
  last_of zero = 0
  last_of (suc k) = budget_of list k

  -- every entry is judged alike, the first beside a budget of 0
  fault-is : (k : ℕ) → is_fault list k ≡ (ltb most_power (budget_of list k) || ltb (budget_of list k) (last_of k))
  fault-is zero = rw (le-ltb (budget_of list 0) 0 (omega arith)) (sym (or-false (ltb most_power (budget_of list 0))))
  fault-is (suc k) = refl

  module _ (k : ℕ) where
    pub too_large : most_power < budget_of list k → is_fault list k ≡ true
    too_large h = rw (fault-is k, lt-ltb _ _ h)

    pub below_last : budget_of list k < last_of k → is_fault list k ≡ true
    below_last h = rw (fault-is k, lt-ltb _ _ h) (or-true (ltb most_power (budget_of list k)))

    right-entry : is_fault list k ≡ false → (budget_of list k ≤ most_power) × (last_of k ≤ budget_of list k)
    right-entry e = let h = neither-passes _ _ (sym (fault-is k) ∙ e) in (ltb-false _ _ h.0, ltb-false _ _ h.1)

  -- an entry that is found wrong is one of them
  pub found_inside : {k : ℕ} → first (is_fault list) (budget_count list) ≡ Some k → k < budget_count list
  found_inside {k} e =
      let F : First (is_fault list) (budget_count list) (Some k) = rw e at (first-is (is_fault list) (budget_count list)) in
      F.0

  -- a length that is not 0, has no part of an entry, and not too many entries
  pub record RightLength : Type 0 where
    pub not_empty : 0 < length list
    pub no_part : length list % budget_bytes ≡ 0
    pub not_long : budget_count list ≤ most_budgets

  is-length : RightLength → is_length list ≡ true
  is-length h = rw (lt-ltb _ _ h.not_empty, eq-eqb _ _ h.no_part, le-leb _ _ h.not_long)

  right-length : is_length list ≡ true → RightLength
  right-length e =
      let h = both-pass _ _ e in
      let g = both-pass _ _ h.1 in
      record { not_empty = ltb-true _ _ h.0; no_part = eqb-true _ _ g.0; not_long = leb-true _ _ g.1 }

  -- another length is refused at place 0
  pub wrong-length : ¬ RightLength → list_refusal list ≡ Some (OperandOutOfRange 0)
  unfolding list_refusal
  wrong-length h = by-test (λ (o : Option Refusal). o ≡ Some (OperandOutOfRange 0)) (is_length list) (λ e. absurd (h (right-length e))) (λ e. refl)

  -- with a right length it goes by the entries
  pub by_entries : RightLength → (o : Option ℕ) → first (is_fault list) (budget_count list) ≡ o → list_refusal list ≡ at_entry o
  unfolding list_refusal
  by_entries h o e = rw (is-length h, e)

-- what a list that is not refused has
pub record RightList (list : List ℕ) : Type 0 where
  pub some : 0 < budget_count list
  pub few : budget_count list ≤ most_budgets
  pub whole : length list ≡ budget_bytes * budget_count list
  pub high : (k : ℕ) → k < budget_count list → budget_of list k ≤ most_power
  pub no_fall : (k : ℕ) → suc k < budget_count list → budget_of list k ≤ budget_of list (suc k)

pub right-list : (list : List ℕ) → list_refusal list ≡ None → RightList list
unfolding list_refusal
right-list list =
    by-test (λ (o : Option Refusal). o ≡ None → RightList list) (is_length list)
    (λ is. by (right-length list is) (first (is_fault list) (budget_count list)) (first-is (is_fault list) (budget_count list)))
    (λ is e. absurd (cc))
  where
    by : RightLength list → (o : Option ℕ) → First (is_fault list) (budget_count list) o → at_entry o ≡ None → RightList list
    by h None right e = record {
      some = omega (arith, h.not_empty, h.no_part);
      few = h.not_long;
      whole = omega (arith, h.no_part);
      high = λ k l. (right-entry list k (right k l)).0;
      no_fall = λ k l. (right-entry list (suc k) (right (suc k) l)).1;
    }
    by h (Some k) wrong e = absurd (cc)

-- what the code's answer tells of a list
pub listed-right : (list : List ℕ) {n : ℕ} → Ok n ≡ list_answer list (list_refusal list) → (list_refusal list ≡ None) × (n ≡ budget_count list)
listed-right list {n} = by (list_refusal list) refl
  where
    by : (o : Option Refusal) → list_refusal list ≡ o → Ok n ≡ list_answer list o → (list_refusal list ≡ None) × (n ≡ budget_count list)
    by None is e = (is, cc)
    by (Some q) is e = absurd (cc)

pub listed-refused : (list : List ℕ) {q : Refusal} → Err q ≡ list_answer list (list_refusal list) → list_refusal list ≡ Some q
listed-refused list {q} = by (list_refusal list) refl
  where
    by : (o : Option Refusal) → list_refusal list ≡ o → Err q ≡ list_answer list o → list_refusal list ≡ Some q
    by None is e = absurd (cc)
    by (Some p) is e = cc
