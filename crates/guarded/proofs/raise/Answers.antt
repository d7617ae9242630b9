-- `guarded::raise` meets its contract. Assumes nothing.
use Rattle.guarded.proofs.Raising.{raising-starts, high-in-range, raised-next, raised-line}
use Rattle.guarded.proofs.raise.Goals as goal

pub loop-tone-init : goal.loop-tone-init
loop-tone-init c = raising-starts (λ i. (c.type_inv.s i).fits) c.requires.indexed c.requires.holds

pub raise_tone-requires : goal.raise_tone-requires
raise_tone-requires c = rw c.parts-gap.ensures (high-in-range c.loop-tone.invariant c.loop-tone-test.true)

pub loop-tone-preserved : goal.loop-tone-preserved
loop-tone-preserved c = raised-next c.loop-tone.invariant c.loop-tone-test.true _ c.is_silenced-silenced.ensures c.raise_tone.result (rw c.parts-gap.ensures at c.raise_tone.ensures)

pub returns : goal.returns
returns c = raised-line c.loop-tone.invariant c.loop-tone-test.false
