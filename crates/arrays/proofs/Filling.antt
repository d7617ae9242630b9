-- The array of a line, filled from the front: what the turns of `fill_arrays` keep, and that all of the line is then in it.
-- Assumes nothing.
use mathlib.Core.Bool.{Bool, true, false}
use mathlib.Core.List.{List}
use mathlib.Core.Path.{◌≡◌, refl, sym, ◌∙◌}
use Prim.Native.Nat.{ℕ, ◌+◌, ◌≤◌, ◌<◌}
use native.Mathlib.Decide.{dec_le}
use native.Mathlib.Omega.{arith}
use borrow.Author.Count.{below_more}
use lib.ListN.{length, set, replicate, length-set, length-replicate, get_or-eq_default}
use lib.Seq.{get_or-set_same, get_or-set_other}
use Rattle.sizes.specs.Sizes.{most_tones}
use Rattle.lists.proofs.Stores.{all_same}
use Rattle.silence.specs.Map.{silenced}
use Rattle.line.specs.declared.Steps.{Steps}
use Rattle.line.specs.Line.{undescribed, Line, gap_of, no_steps, entry_steps, steps_at}
use Rattle.line.specs.Arrays.{Arrays, steps_in, ArraysOf}
use Rattle.rows.specs.declared.Header.{Header}
use Rattle.sheet.specs.declared.Index.{Index}
use Rattle.sheet.specs.Reading.{said}
use Rattle.sheet.proofs.Sound.{Bytes, Sound}
use Rattle.sheet.proofs.Uses.{size_is, line-sound}
use Rattle.arrays.specs.Tones.{Blank, IndexedLow, HoldsLineOf}

-- the first i tones of a line are in the array, and nothing past them
pub record Filling (l : Line) (A : Arrays) (i : ℕ) : Type 0 where
  pub sized : length A ≡ most_tones
  pub front : (k : ℕ) → k < i → steps_in A k ≡ steps_at l k
  pub past : (k : ℕ) → i ≤ k → steps_in A k ≡ no_steps

filling-none : (l : Line) → Filling l (replicate most_tones no_steps) 0
filling-none l = record { sized = length-replicate most_tones no_steps; front = λ k h. absurd (omega arith); past = λ k h. all_same most_tones k no_steps }

-- one tone more
filling-more : {l : Line} {A : Arrays} {i : ℕ} → Filling l A i → i < most_tones → (s : Steps) → s ≡ steps_at l i → Filling l (set A i s) (i + 1)
filling-more {l} {A} {i} F inside s e = record {
  sized = length-set A i s ∙ F.sized;
  front = below_more _ i (λ k h. get_or-set_other A i k s no_steps (λ q. omega arith) ∙ F.front k h) (get_or-set_same A i s no_steps (omega (arith, F.sized)) ∙ e);
  past = λ k h. get_or-set_other A i k s no_steps (λ q. omega arith) ∙ F.past k (omega arith);
}

-- past its N tones a line has nothing
nothing-past : (l : Line) → length l.entries ≡ l.size → (k : ℕ) → l.size ≤ k → steps_at l k ≡ no_steps
nothing-past l e k h = rw (get_or-eq_default l.entries undescribed {n = k} (omega arith)) (none (silenced l.maps k))
  where
    none : (q : Bool) → entry_steps (gap_of l) undescribed q ≡ no_steps
    none true = refl
    none false = refl

-- all of them are in
filling-all : {l : Line} {A : Arrays} {i : ℕ} → Sound l → Filling l A i → l.size ≤ i → ArraysOf l A
filling-all {l} {A} {i} S F all = record { sized = F.sized; agree = λ k. by k (dec_le i k) }
  where
    by : (k : ℕ) → Dec (i ≤ k) → steps_in A k ≡ steps_at l k
    by k (yes h) = F.past k h ∙ sym (nothing-past l S.entries_sized k (omega arith))
    by k (no h) = F.front k (omega arith)

-- ---- as the code goes

-- an index of a sheet for what goes by the low noises, and the first i tones of its line in the array
pub record FillingOf (s : List ℕ) (h : Header) (x : Index) (A : Arrays) (i : ℕ) : Type 0 where
  pub low : IndexedLow s h x
  pub sound : Sound low.index.line
  pub filling : Filling low.index.line A i

pub filling-starts : {s : List ℕ} {h : Header} {x : Index} {A : Arrays} → Bytes s → IndexedLow s h x → Blank A → FillingOf s h x A 0
filling-starts b L N = record { low = L; sound = line-sound L.index b; filling = rw N.none (filling-none L.index.line) }

module _ {s : List ℕ} {h : Header} {x : Index} {A : Arrays} {i : ℕ} (F : FillingOf s h x A i) where
  -- one tone more
  pub filled_next : i < most_tones → (steps : Steps) → steps ≡ steps_at F.low.index.line i → FillingOf s h x (set A i steps) (i + 1)
  filled_next inside steps e = record { low = F.low; sound = F.sound; filling = filling-more F.filling inside steps e }

  -- all of them are in
  pub filled-line : h.size ≤ i → HoldsLineOf (said s) A
  filled-line all = rw F.low.index.means (F.sound.in_range, filling-all F.sound F.filling (omega (arith, size_is F.low.index)))
