-- `line::limit_of` meets its contract. Assumes nothing.
use mathlib.Core.Path.{◌≡◌, refl}
use Prim.Native.Nat.{◌*◌}
use native.Mathlib.Omega.{arith}
use Rattle.line.proofs.Tries.{Searched, shift-at-most-2, one_more, next, next_fits, mask-ends, cap-ends}
use Rattle.line.proofs.limit_of.Goals.{After-doublings-shift}
use Rattle.line.proofs.limit_of.Goals as goal

searched : (c : After-doublings-shift)
    → Searched c.args.tone c.args.cost c.bounds_of-bounds.result c.doublings-shift.result
searched c = record {
  cost = c.requires.0;
  in_range = c.requires.1;
  bounds = c.bounds_of-bounds.ensures;
  shift = c.doublings-shift.ensures;
}

pub power_of-first-requires : goal.power_of-first-requires
power_of-first-requires c = record {
  cost_bound = omega (arith, c.requires.0.high);
  bits_bound = omega (arith, shift-at-most-2 (searched (goal.at.power_of-first-requires c).After-doublings-shift));
}

pub loop-bits-init : goal.loop-bits-init
loop-bits-init c =
    let none : c.doublings-shift.result * 0 ≡ 0 = omega arith in
    record { at_most = omega arith; power_is = rw none (omega arith); under = omega arith; counted = refl }

pub overflow_shl-power : goal.overflow_shl-power
overflow_shl-power c = omega (arith, shift-at-most-2 (searched (goal.at.overflow_shl-power c).After-doublings-shift))

pub overflow_add-power : goal.overflow_add-power
overflow_add-power c =
    let a = c in
    record { fits = next_fits (searched (goal.at.overflow_add-power c).After-doublings-shift) a.loop-bits.invariant a.power_of-first.ensures }

pub overflow_add-tries : goal.overflow_add-tries
overflow_add-tries c =
    let a = c in
    record { fits = omega (arith, one_more (searched (goal.at.overflow_add-tries c).After-doublings-shift) a.loop-bits.invariant, a.loop-bits.invariant.counted) }

pub returns-then-bounds-power : goal.returns-then-bounds-power
returns-then-bounds-power c =
    let S = searched (goal.at.returns-then-bounds-power c).After-doublings-shift in
    let tried = next S c.loop-bits.invariant c.power_of-first.ensures in
    let ends = mask-ends S c.loop-bits.invariant (omega arith) (omega arith) in
    record { limit = ends.0; tries = ends.1 }

pub loop-bits-preserved : goal.loop-bits-preserved
loop-bits-preserved c =
    record {
      at_most = omega arith;
      power_is = next (searched (goal.at.loop-bits-preserved c).After-doublings-shift) c.loop-bits.invariant c.power_of-first.ensures;
      under = omega arith;
      counted = omega (arith, c.loop-bits.invariant.counted);
    }

pub returns : goal.returns
returns c =
    let ends = cap-ends (searched (goal.at.returns c).After-doublings-shift) c.loop-bits.invariant (omega arith) in
    record { limit = ends.0; tries = ends.1 }
