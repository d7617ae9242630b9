-- The first tone of a starting table with more bits than its limit, refusal 10's place; and that there is none exactly where the limits are kept.
-- Assumes nothing.
use mathlib.Core.Bool.{Bool}
use mathlib.Core.Path.{◌≡◌, sym, subst}
use native.Mathlib.Omega.{arith}
use Prim.Native.Nat.{ℕ, ◌≤◌, ◌<◌}
use borrow.Author.Tests.{ltb-true, ltb-false, lt-ltb, le-ltb}
use lib.Dec.{ltb}
use lib.ListN.{length, get_or}
use Rattle.std.specs.Prelude.{Option, Some, None}
use Rattle.std.specs.List.{zip, AllWithin, HoldsAt}
use Rattle.std.specs.Option.{MatchOption}
use Rattle.std.proofs.lemmas.Slice.Zip.{length-zip, get_or-zip}
use Rattle.lists.specs.First.{first}
use Rattle.lists.proofs.First as any
use Rattle.steps.specs.Tones.{Tones, Table, ◌!◌, KeepsLimits}
use Rattle.line.specs.declared.Steps.{Steps}
use Rattle.line.specs.Line.{no_steps}
use Rattle.line.specs.Arrays.{Arrays, steps_in, limit_at}
use Rattle.starts.specs.Starts.{first_above, SameLimits}

-- what `first_above` finds among the tones below n
abbrev pub First : Tones → Table → (n : ℕ) → Option ℕ → Type 0
First T t n None = (i : ℕ) → i < n → t ! i ≤ T.limit i
First T t n (Some i) = (i < n) × (T.limit i < t ! i) × ((j : ℕ) → j < i → t ! j ≤ T.limit j)

module _ (T : Tones) (t : Table) (n : ℕ) where
  -- whether a tone has more bits than its limit
  abbrev above : (i : ℕ) → Bool
  above i = ltb (T.limit i) (t ! i)

  of-tones : (o : Option ℕ) → any.First above n o → First T t n o
  of-tones None h = λ i l. ltb-false _ _ (h i l)
  of-tones (Some i) h = (h.0, ltb-true _ _ h.1, λ j l. ltb-false _ _ (h.2 j l))

  -- refusal 10's place is the first tone with more bits than its limit
  pub first_above_lem : First T t n (first_above T t n)
  unfolding first_above
  first_above_lem = of-tones (first above n) (any.first-is above n)

  -- there is none where every tone keeps its limit
  pub none_above : ((i : ℕ) → i < n → t ! i ≤ T.limit i) → first_above T t n ≡ None
  unfolding first_above
  none_above h = any.none_first above n (λ i l. le-ltb _ _ (h i l))

  -- it is tone i where i has more bits than its limit and no tone below i has
  pub above_at_lem : (i : ℕ) → i < n → T.limit i < t ! i → ((j : ℕ) → j < i → t ! j ≤ T.limit j) → first_above T t n ≡ Some i
  unfolding first_above
  above_at_lem i inside over h = any.first-at above n i inside (lt-ltb _ _ over) (λ j l. le-ltb _ _ (h j l))

-- a table of one entry a tone in which none is found keeps the limits
pub none-keeps : (T : Tones) (t : Table) → length t ≡ T.count → first_above T t T.count ≡ None → KeepsLimits T t
none-keeps T t sized e = record { sized = sized; under = rw e at (first_above_lem T t T.count) }

-- ---- the search of a table's bits beside the steps of the tones

abbrev pub over : ℕ × Steps → Type 0
over p = p.1.limit.bits < p.0

abbrev pub keeps : ℕ × Steps → Type 0
keeps p = p.0 ≤ p.1.limit.bits

-- where it finds the first pair that is over, it finds that tone
pub found-first : (t : Table) (A : Arrays) → length t ≤ length A → (o : Option ℕ)
    → MatchOption o (AllWithin keeps (zip t A) 0 (length (zip t A))) (λ i. (i < length (zip t A)) × HoldsAt over (zip t A) i × AllWithin keeps (zip t A) 0 i)
    → (T : Tones) → SameLimits T A (length t) → o ≡ first_above T t (length t)
found-first t A long o h T same = sym (by o h)
  where
    pair : (j : ℕ) → j < length t → get_or (zip t A) j (0, no_steps) ≡ (t ! j, steps_in A j)
    pair j l = get_or-zip t A j _ l (omega arith)

    under : (n : ℕ) → n ≤ length t → AllWithin keeps (zip t A) 0 n → (j : ℕ) → j < n → t ! j ≤ T.limit j
    under n m k j l =
        let inside : j < length t = omega arith in
        let kept : t ! j ≤ limit_at A j = subst keeps (pair j inside) (k j (0, no_steps) (omega arith) l) in
        omega (arith, kept, same.same_limit j inside)

    all : length (zip t A) ≡ length t
    all = omega (arith, length-zip t A)

    by : (r : Option ℕ) → MatchOption r (AllWithin keeps (zip t A) 0 (length (zip t A))) (λ i. (i < length (zip t A)) × HoldsAt over (zip t A) i × AllWithin keeps (zip t A) 0 i)
        → first_above T t (length t) ≡ r
    by None k = none_above T t (length t) (under (length t) (omega arith) (rw (← all) k))
    by (Some i) k =
        let inside : i < length t = omega (arith, k.0, all) in
        let above : limit_at A i < t ! i = subst over (pair i inside) (k.1 (0, no_steps)) in
        above_at_lem T t (length t) i inside (omega (arith, above, same.same_limit i inside)) (under i (omega arith) k.2)
