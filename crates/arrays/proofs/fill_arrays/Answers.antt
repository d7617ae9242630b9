-- `arrays::fill_arrays` meets its contract. Between the turns the array holds the tones below the next one. Assumes nothing.
use mathlib.Core.Path.{◌∙◌}
use native.Mathlib.Omega.{arith}
use Rattle.arrays.proofs.Indexed.{low-size-high, low-in-range, low-steps-found}
use Rattle.arrays.proofs.Filling.{filling-starts, filled_next, filled-line}
use Rattle.arrays.proofs.fill_arrays.Goals as goal

pub loop-tone-init : goal.loop-tone-init
loop-tone-init c = filling-starts (λ i. (c.type_inv.s i).fits) c.requires.indexed_low c.requires.blank

pub is_silenced-silenced-requires : goal.is_silenced-silenced-requires
is_silenced-silenced-requires c = omega (arith, low-size-high c.loop-tone.invariant.low c.loop-tone.invariant.sound)

pub bounds-index-i : goal.bounds-index-i
bounds-index-i c = omega (arith, low-size-high c.loop-tone.invariant.low c.loop-tone.invariant.sound)

pub bounds-tones-i : goal.bounds-tones-i
bounds-tones-i c = omega (arith, low-size-high c.loop-tone.invariant.low c.loop-tone.invariant.sound)

pub steps_at-requires : goal.steps_at-requires
steps_at-requires c = rw c.parts-gap.ensures (low-in-range c.loop-tone.invariant.low c.loop-tone.invariant.sound _ c.loop-tone-test.true)

pub loop-tone-preserved : goal.loop-tone-preserved
loop-tone-preserved c =
    let F = c.loop-tone.invariant in
    filled_next F (omega (arith, low-size-high F.low F.sound)) c.steps_at.result
    (c.steps_at.ensures ∙ low-steps-found F.low F.sound c.loop-tone.tone c.parts-gap.ensures c.is_silenced-silenced.ensures)

pub returns : goal.returns
returns c = filled-line c.loop-tone.invariant (omega arith)
