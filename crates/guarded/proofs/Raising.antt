-- Raising a line's tones to the high noises, tone by tone.
-- Assumes nothing.
use mathlib.Core.Bool.{Bool}
use mathlib.Core.List.{List}
use mathlib.Core.Path.{◌≡◌, sym, ◌∙◌}
use Prim.Native.Nat.{ℕ, ◌+◌, ◌≤◌, ◌<◌}
use native.Mathlib.Decide.{dec_lt}
use native.Mathlib.Omega.{arith}
use borrow.Author.Count.{below_more}
use lib.ListN.{length, set, length-set}
use lib.Seq.{get_or-set_same, get_or-set_other}
use Rattle.sizes.specs.Sizes.{most_tones}
use Rattle.silence.specs.Map.{silenced}
use Rattle.gaps.specs.Gap.{parts}
use Rattle.line.specs.declared.Steps.{Steps}
use Rattle.line.specs.Tone.{InRange}
use Rattle.line.specs.Line.{Line, no_steps, steps_at}
use Rattle.line.specs.Arrays.{Arrays, steps_in, ArraysOf}
use Rattle.places.specs.Places.{tone_at, high_at}
use Rattle.noises.specs.Noises.{with_noise, at_high}
use Rattle.rows.specs.declared.Header.{Header}
use Rattle.sheet.specs.declared.Index.{Index}
use Rattle.sheet.specs.Reading.{accepted, said}
use Rattle.sheet.specs.Index.{noted_of, Indexed}
use Rattle.sheet.proofs.Sound.{Bytes}
use Rattle.sheet.proofs.Uses.{size_high}
use Rattle.guarded.specs.Guarded.{raised_tone}
use Rattle.guarded.proofs.High.{raised-past, raised-in-range, raised_is}

-- an index of a sheet, and the first i tones of its line raised in the array: the others have what they had
pub record Raising (s : List ℕ) (h : Header) (index : Index) (A : Arrays) (i : ℕ) : Type 0 where
  pub indexed : Indexed s h index
  pub bytes : Bytes s
  pub size_high : h.size ≤ most_tones
  pub sized : length A ≡ most_tones
  pub raised : (j : ℕ) → j < i → steps_in A j ≡ steps_at (at_high indexed.line) j
  pub kept : (j : ℕ) → i ≤ j → steps_in A j ≡ steps_at indexed.line j

module _ {s : List ℕ} {h : Header} {index : Index} {A : Arrays} where
  pub raising-starts : Bytes s → Indexed s h index → ((l : Line) → said s ≡ accepted l → ArraysOf l A) → Raising s h index A 0
  raising-starts bytes x holds =
      let a = holds x.line x.means in
      record { indexed = x; bytes = bytes; size_high = size_high x bytes; sized = a.sized; raised = λ j h. absurd (omega arith); kept = λ j h. a.agree j }

  module _ {i : ℕ} (R : Raising s h index A i) where
    abbrev x : Indexed s h index
    x = R.indexed

    pub high-in-range : i < h.size → 0 < (noted_of index i).high
        → InRange (parts h.gap) (with_noise (high_at s (noted_of index i).high) (tone_at s (noted_of index i).own))
    high-in-range l there = raised-in-range x i there R.bytes l

    -- one tone more, as the code finds it
    pub raised-next : i < h.size → (q : Bool) → q ≡ silenced index.maps i → (y : Steps)
        → y ≡ raised_tone (parts h.gap) s (noted_of index i) q (steps_in A i) → Raising s h index (set A i y) (i + 1)
    raised-next l q silent y e = record {
      indexed = x;
      bytes = R.bytes;
      size_high = R.size_high;
      sized = length-set A i y ∙ R.sized;
      raised = below_more _ i (λ j h. get_or-set_other A i j y no_steps (λ e. omega arith) ∙ R.raised j h)
          (get_or-set_same A i y no_steps (omega (arith, l, R.size_high, R.sized)) ∙ e ∙ rw (silent, R.kept i (omega arith)) (raised_is x i));
      kept = λ j h. get_or-set_other A i j y no_steps (λ e. omega arith) ∙ R.kept j (omega arith);
    }

    -- all of them are raised; past the line's last, nothing is changed
    pub raised-line : h.size ≤ i → (l : Line) → said s ≡ accepted l → ArraysOf (at_high l) A
    raised-line past l e =
        let same : x.line ≡ l = cc x.means in
        let high : ArraysOf (at_high x.line) A = record { sized = R.sized; agree = λ j. agree j (dec_lt j i) } in
        rw same at high
      where
        agree : (j : ℕ) → Dec (j < i) → steps_in A j ≡ steps_at (at_high x.line) j
        agree j (yes h) = R.raised j h
        agree j (no m) = R.kept j (omega arith) ∙ sym (raised-past x j R.bytes (omega arith))
