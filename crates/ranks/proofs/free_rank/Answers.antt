-- `ranks::free_rank` meets its contract. Assumes nothing.
use mathlib.Core.Path.{refl}
use Prim.Native.Nat.{◌^◌, ◌<◌}
use native.Mathlib.Nat.{le_trans, mul-le-mul_left}
use native.Mathlib.Omega.{arith}
use borrow.Author.Tests.{lt-ltb, le-ltb}
use Rattle.ranks.specs.Ranks.{no_step}
use Rattle.ranks.proofs.Sizes.{size_high}
use Rattle.ranks.proofs.free_rank.Goals.{After-step_size}
use Rattle.ranks.proofs.free_rank.Goals as goal

pub step_size-requires : goal.step_size-requires
step_size-requires c = record {
  steps_rise = c.requires.steps_rise (omega arith);
  cost_bound = c.requires.cost_bound;
  bits_bound = le_trans (mul-le-mul_left c.args.steps.doublings (omega arith)) c.requires.limit_bound;
  bits_small = omega arith;
}

small : (c : After-step_size) → c.step_size.result < 2 ^ 39
small c =
    let a = c.args in
    let s = a.steps in
    rw c.step_size.ensures
    (size_high s.cost s.doublings s.rest a.bits c.requires.cost_bound (le_trans (mul-le-mul_left s.doublings (omega arith)) c.requires.limit_bound))

pub overflow_mul-result : goal.overflow_mul-result
overflow_mul-result c = record { fits = omega (arith, small (goal.at.overflow_mul-result c).After-step_size) }

pub overflow_add-result : goal.overflow_add-result
overflow_add-result c = record { fits = omega (arith, small (goal.at.overflow_add-result c).After-step_size, c.requires.tone_lt_most_tones) }

pub returns-then-bits-steps : goal.returns-then-bits-steps
returns-then-bits-steps c = let a = c.args in rw (lt-ltb a.bits a.steps.limit.bits (omega arith), c.step_size.ensures) refl

pub returns : goal.returns
unfolding no_step
returns c = let a = c.args in rw (le-ltb a.bits a.steps.limit.bits (omega arith)) refl
