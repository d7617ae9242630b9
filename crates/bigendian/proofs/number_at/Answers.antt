-- `bigendian::number_at` meets its contract. Between the turns n is the number that the bytes read so far spell. Assumes nothing.
use mathlib.Core.Bool.{true}
use mathlib.Core.List.{List}
use mathlib.Core.Path.{◌≡◌, refl, sym, ◌∙◌}
use Prim.Native.Nat.{ℕ, ◌+◌, ◌-◌, ◌≤◌, ◌<◌}
use native.Mathlib.Nat.{one-le-pow}
use native.Mathlib.Numerals.{add-one}
use native.Mathlib.Omega.{arith}
use borrow.Author.Tests.{leb-true, le-ltb, lt-ltb}
use lib.Dec.{leb}
use lib.ListN.{length, get_or, take, drop, length-drop}
use Rattle.std.proofs.lemmas.List.{length-take-le, get_or-take, get_or-drop}
use Rattle.bigendian.specs.Number.{number, number_at}
use Rattle.bigendian.proofs.Numbers.{next-lt, next_fits, number-next, number-there}
use Rattle.bigendian.proofs.number_at.Goals as goal

-- the bytes that are read are as many as asked for, and stand from the place on
module _ (s : List ℕ) (at w : ℕ) where
  length-read : at + w ≤ length s → length (take (at + w - at) (drop at s)) ≡ w
  length-read h = length-take-le _ (drop at s) (omega (arith, length-drop at s)) ∙ omega arith

  turn : (i : ℕ) → true ≡ leb (at + w) (length s) → i < length (take (at + w - at) (drop at s)) → i < w
  turn i inside h = omega (arith, length-read (leb-true _ _ (sym inside)))

  byte-read : (i : ℕ) → i < w → get_or (take (at + w - at) (drop at s)) i 0 ≡ get_or s (at + i) 0
  byte-read i h = get_or-take (at + w - at) (drop at s) i 0 (omega arith) ∙ get_or-drop at s i 0

pub returns-then-width-gt8 : goal.returns-then-width-gt8
unfolding number_at
returns-then-width-gt8 c = record {
  meaning = rw (lt-ltb 8 _ c.if-width-gt8.true);
  range = one-le-pow _ 256 (omega arith);
}

pub returns-then-not-is_within : goal.returns-then-not-is_within
unfolding number_at
returns-then-not-is_within c = record {
  meaning = rw (le-ltb 8 _ c.if-width-gt8.false, sym c.is_within.ensures ∙ c.if-not-is_within.true);
  range = one-le-pow _ 256 (omega arith);
}

pub loop-byte-init : goal.loop-byte-init
unfolding number
loop-byte-init c = record { spelt = refl; range = omega arith }

pub overflow_mul-n : goal.overflow_mul-n
overflow_mul-n c =
    let g = c.args in
    let i = c.loop-byte.byte-index in
    let l : i < g.width = turn g.s.now g.at g.width i c.if-not-is_within.ensures c.loop-byte-test.true in
    omega (arith, next_fits _ _ 0 c.loop-byte.invariant.range (omega arith) (omega (arith, l)))

pub overflow_add-n : goal.overflow_add-n
overflow_add-n c =
    let g = c.args in
    let i = c.loop-byte.byte-index in
    let l : i < g.width = turn g.s.now g.at g.width i c.if-not-is_within.ensures c.loop-byte-test.true in
    let read = byte-read g.s.now g.at g.width i l in
    omega (arith, read, next_fits i c.loop-byte.n (get_or g.s.now (g.at + i) 0) c.loop-byte.invariant.range (c.type_inv.s (g.at + i)).fits (omega (arith, l)))

pub loop-byte-preserved : goal.loop-byte-preserved
loop-byte-preserved c =
    let g = c.args in
    let i = c.loop-byte.byte-index in
    let l : i < g.width = turn g.s.now g.at g.width i c.if-not-is_within.ensures c.loop-byte-test.true in
    record {
      spelt = rw (byte-read g.s.now g.at g.width i l, add-one i) (number-next g.s.now g.at i c.loop-byte.n c.loop-byte.invariant.spelt);
      range = rw (byte-read g.s.now g.at g.width i l, add-one i) (next-lt i _ _ c.loop-byte.invariant.range (c.type_inv.s (g.at + i)).fits);
    }

pub returns : goal.returns
returns c =
    let g = c.args in
    let inside : g.at + g.width ≤ length g.s.now = leb-true _ _ (sym c.if-not-is_within.ensures) in
    let e : c.loop-byte.byte-index ≡ g.width = omega (arith, length-read g.s.now g.at g.width inside) in
    record {
      meaning = rw e at c.loop-byte.invariant.spelt ∙ sym (number-there _ _ _ c.if-width-gt8.false inside);
      range = rw e at c.loop-byte.invariant.range;
    }
