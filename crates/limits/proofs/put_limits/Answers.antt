-- `limits::put_limits` meets its contract. Between the turns the limits of the tones below the next one are written. Assumes nothing.
use mathlib.Core.Path.{◌∙◌}
use native.Mathlib.Omega.{arith}
use Rattle.arrays.proofs.Indexed.{size_high, tone-in-range, steps-found}
use Rattle.limits.proofs.Bytes.{writing-starts, written-limit, written-limits}
use Rattle.limits.proofs.put_limits.Goals as goal

pub loop-tone-init : goal.loop-tone-init
loop-tone-init c = writing-starts (λ i. (c.type_inv.s i).fits) c.requires.indexed c.args.out.now

pub is_silenced-silenced-requires : goal.is_silenced-silenced-requires
is_silenced-silenced-requires c = omega (arith, size_high c.loop-tone.invariant.index)

pub bounds-index-i : goal.bounds-index-i
bounds-index-i c = omega (arith, size_high c.loop-tone.invariant.index)

pub steps_at-steps-requires : goal.steps_at-steps-requires
steps_at-steps-requires c = rw c.parts-gap.ensures (tone-in-range c.loop-tone.invariant.index _ c.loop-tone-test.true)

pub put_limit-requires : goal.put_limit-requires
put_limit-requires c = omega (arith, c.loop-tone-test.true, c.loop-tone.invariant.entries.same_length, c.requires.size_in_bounds)

pub loop-tone-preserved : goal.loop-tone-preserved
loop-tone-preserved c =
    written-limit c.loop-tone.invariant c.steps_at-steps.result
    (c.steps_at-steps.ensures ∙ steps-found c.loop-tone.invariant.index c.loop-tone.tone c.parts-gap.ensures c.is_silenced-silenced.ensures) c.put_limit.ensures

pub returns : goal.returns
returns c = written-limits c.loop-tone.invariant (omega arith)
