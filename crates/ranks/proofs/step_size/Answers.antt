-- `ranks::step_size` meets its contract. Assumes nothing.
use native.Mathlib.Nat.{le_of_lt, le_trans}
use native.Mathlib.Numerals.{add-one}
use Rattle.ranks.proofs.Sizes.{shift-less, power-rises}
use Rattle.ranks.proofs.step_size.Goals as goal

pub power-requires : goal.power-requires
power-requires c = record {
  cost_bound = c.requires.cost_bound;
  bits_bound = rw (add-one c.args.bits) c.requires.bits_bound;
}

pub power-requires-2 : goal.power-requires-2
power-requires-2 c =
    let a = c in
    record {
      cost_bound = a.requires.cost_bound;
      bits_bound = le_trans (shift-less a.args.steps.doublings a.args.bits) a.requires.bits_bound;
    }

pub overflow_sub-result : goal.overflow_sub-result
overflow_sub-result c =
    let s = c in
    let a = s.args in
    rw (c.power.ensures, c.power-2.ensures, add-one a.bits)
    (le_of_lt (power-rises a.steps.cost a.steps.doublings a.steps.rest s.requires.steps_rise a.bits))

pub returns : goal.returns
returns c = rw (c.power.ensures, c.power-2.ensures, add-one c.args.bits)
