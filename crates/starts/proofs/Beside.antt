-- A walk over the bits of a starting table beside the steps of its tones: which tone each turn is at.
-- Assumes nothing.
use mathlib.Core.List.{List}
use mathlib.Core.Path.{◌≡◌, ap, ◌∙◌}
use Prim.Native.Nat.{ℕ, ◌+◌, ◌≤◌, ◌<◌}
use native.Mathlib.Omega.{arith}
use lib.ListN.{length, get_or}
use Rattle.std.specs.Prelude.{Option, Some, None}
use Rattle.std.specs.Iterator.{Yields}
use Rattle.std.specs.Iterator.Adapters.{enumerate_source, enumerate_count, enumerate_steps, zip_first, zip_second}
use Rattle.std.specs.List.{zip, enumerate_from}
use Rattle.std.specs.Slice.Iter.{iter_rest}
use Rattle.std.specs.declared.iter.Enumerate.{Enumerate}
use Rattle.std.specs.declared.iter.Zip.{Zip}
use Rattle.std.proofs.Common.{Bor, Iter}
use Rattle.std.proofs.iter.Yields.{fronts}
use Rattle.std.proofs.lemmas.Iterator.{YieldsList, YieldsList-from_slice, YieldsList-from_zip, zips}
use Rattle.std.proofs.lemmas.Iterator.Consumers.{YieldsList-from_enumerate, YieldsList-turn, YieldsList-end}
use Rattle.std.proofs.lemmas.List.{get_or_default}
use Rattle.std.proofs.lemmas.List.FromFn.{length-enumerate_from, get_or-enumerate_from}
use Rattle.std.proofs.lemmas.Slice.Zip.{length-zip, get_or-zip}
use Rattle.steps.specs.Tones.{Table, ◌!◌}
use Rattle.line.specs.declared.Steps.{Steps}
use Rattle.line.specs.Line.{no_steps}
use Rattle.line.specs.Arrays.{Arrays, steps_in}

-- the turn at tone i has these
pub record At (t : Table) (A : Arrays) (i tone bits : ℕ) (steps : Steps) : Type 0 where
  pub inside : i < length t
  pub tone_is : tone ≡ i
  pub bits_are : bits ≡ t ! i
  pub steps_are : steps ≡ steps_in A i

-- what it gives in all
road : {t : Table} {A : Arrays} {s : Enumerate (Zip (Iter ℕ) (Iter Steps))} → iter_rest (zip_first (enumerate_source s)) ≡ t
    → iter_rest (zip_second (enumerate_source s)) ≡ A → enumerate_count s ≡ 0
    → YieldsList (enumerate_steps (zips fronts fronts)) (λ p. (p.0, (p.1.0.now, p.1.1.now))) s (enumerate_from 0 (zip t A))
road {t} {A} first second from_0 = YieldsList-from_enumerate (YieldsList-from_zip (YieldsList-from_slice t first) (YieldsList-from_slice A second)) from_0

module _ (t : Table) (A : Arrays) (s now next : Enumerate (Zip (Iter ℕ) (Iter Steps))) (seen : List (ℕ × (Bor ℕ × Bor Steps)))
    (r : Option (ℕ × (Bor ℕ × Bor Steps))) (first : iter_rest (zip_first (enumerate_source s)) ≡ t) (second : iter_rest (zip_second (enumerate_source s)) ≡ A)
    (from_0 : enumerate_count s ≡ 0) (so_far : Yields (enumerate_steps (zips fronts fronts)) s seen now)
    (steps : enumerate_steps (zips fronts fronts) now r next) where
  pub turn : (p : ℕ × (Bor ℕ × Bor Steps)) → r ≡ Some p → At t A (length seen) p.0 p.1.0.now p.1.1.now
  turn p e =
      let i = length seen in
      let h = YieldsList-turn (road first second from_0) seen now so_far r next p e steps in
      let pair : i < length (zip t A) = omega (arith, h.0, length-enumerate_from 0 (zip t A)) in
      let inside : i < length t = omega (arith, pair, length-zip t A) in
      let among : i < length A = omega (arith, pair, length-zip t A) in
      let item : ◌≡◌ {A = ℕ × (ℕ × Steps)} (p.0, (p.1.0.now, p.1.1.now)) (0 + i, (get_or t i p.1.0.now, get_or A i p.1.1.now)) =
      h.1 ∙ get_or-enumerate_from 0 (zip t A) i _ pair ∙ ap (λ (q : ℕ × Steps). (0 + i, q)) (get_or-zip t A i _ inside among) in
      record {
        inside = inside;
        tone_is = omega (arith, ap (λ (q : ℕ × (ℕ × Steps)). q.0) item);
        bits_are = ap (λ (q : ℕ × (ℕ × Steps)). q.1.0) item ∙ get_or_default t i _ 0 inside;
        steps_are = ap (λ (q : ℕ × (ℕ × Steps)). q.1.1) item ∙ get_or_default A i _ no_steps among;
      }

  -- the walk ends behind the last tone, where each has its steps
  pub ends : length t ≤ length A → r ≡ None → length seen ≡ length t
  ends l e = omega (arith, l, (YieldsList-end (road first second from_0) seen now so_far r next e steps).1, length-enumerate_from 0 (zip t A), length-zip t A)
