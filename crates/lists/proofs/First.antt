-- What the first number that passes a test is, and that there is none exactly where none passes.
-- Assumes nothing.
use mathlib.Core.Bool.{Bool, true, false, cond, true≢false}
use mathlib.Core.Path.{◌≡◌, refl, ap, sym, ◌∙◌}
use Prim.Native.Nat.{ℕ, zero, suc, ◌<◌}
use native.Mathlib.Numerals.{add-one}
use native.Mathlib.Omega.{arith}
use borrow.Author.Count.{below_none, below_more}
use Rattle.std.specs.Prelude.{Option, Some, None}
use Rattle.lists.specs.First.{or_else, first}

-- what `first` finds among the numbers below n
abbrev pub First : (test : (i : ℕ) → Bool) → (n : ℕ) → Option ℕ → Type 0
First test n None = (i : ℕ) → i < n → test i ≡ false
First test n (Some i) = (i < n) × (test i ≡ true) × ((j : ℕ) → j < i → test j ≡ false)

-- it finds the first that passes, if any does
pub first-is : (test : (i : ℕ) → Bool) (n : ℕ) → First test n (first test n)
unfolding first or_else
first-is test zero = below_none _
first-is test (suc n) = go (first test n) (first-is test n) (test n) refl
  where
    go : (o : Option ℕ) → First test n o → (t : Bool) → test n ≡ t → First test (suc n) (or_else o (cond t (Some n) None))
    go (Some i) h t e = (omega arith, h.1, h.2)
    go None h true e = (omega arith, e, h)
    go None h false e = rw (sym (add-one n)) (below_more (λ i. test i ≡ false) n h e)

module _ (test : (i : ℕ) → Bool) (n : ℕ) where
  -- there is one first at most
  only-first : (o p : Option ℕ) → First test n o → First test n p → o ≡ p
  only-first None None f g = refl
  only-first None (Some j) f g = absurd (true≢false (sym g.1 ∙ f j g.0))
  only-first (Some i) None f g = absurd (true≢false (sym f.1 ∙ g i f.0))
  only-first (Some i) (Some j) f g =
      let up : ¬ (i < j) = λ l. true≢false (sym f.1 ∙ g.2 i l) in
      let down : ¬ (j < i) = λ l. true≢false (sym g.1 ∙ f.2 j l) in
      let e : i ≡ j = omega arith in
      ap Some e

  -- there is none where no number below n passes
  pub none_first : ((i : ℕ) → i < n → test i ≡ false) → first test n ≡ None
  none_first h = only-first (first test n) None (first-is test n) h

  -- it is i where i passes and none below i does
  pub first-at : (i : ℕ) → i < n → test i ≡ true → ((j : ℕ) → j < i → test j ≡ false) → first test n ≡ Some i
  first-at i inside passes h = only-first (first test n) (Some i) (first-is test n) (inside, passes, h)
