-- `bigendian::put_number` meets its contract. Between the turns the bytes still to be written make what is there into the whole. Assumes nothing.
use mathlib.Core.Path.{◌≡◌, sym, ◌∙◌}
use Prim.Native.Nat.{◌+◌, ◌-◌}
use native.Mathlib.Omega.{arith}
use borrow.Author.Tests.{leb-true}
use Rattle.bigendian.specs.Number.{bytes, with_number}
use Rattle.bigendian.proofs.Numbers.{bytes_next, number_fits}
use Rattle.bigendian.proofs.put_number.Goals as goal

pub returns-then-not-is_within : goal.returns-then-not-is_within
unfolding with_number
returns-then-not-is_within c = rw (sym c.is_within.ensures ∙ c.if-not-is_within.true)

pub loop-i-init : goal.loop-i-init
loop-i-init c =
    let g = c.args in
    let e : g.at + g.width - g.at ≡ g.width = omega arith in
    rw e

pub loop-i-preserved : goal.loop-i-preserved
loop-i-preserved c =
    let at = c.args.at in
    let i = c.loop-i.i in
    let k : at + (i - at - 1) ≡ i - 1 = omega arith in
    let j : i - at - 1 ≡ i - 1 - at = omega arith in
    rw (k, j) at (bytes_next c.loop-i.out at (i - at) c.loop-i.rest (omega arith)) ∙ c.loop-i.invariant

pub returns : goal.returns
unfolding bytes
returns c =
    let g = c.args in
    let e : c.loop-i.i - g.at ≡ 0 = omega arith in
    rw e at c.loop-i.invariant ∙ sym (number_fits _ _ _ _ (leb-true _ _ (sym c.if-not-is_within.ensures)))
