-- `starts::no_bits` meets its contract. Between the turns the rests of the tones below the index are added up. Assumes nothing.
use mathlib.Core.Path.{◌≡◌, refl}
use native.Mathlib.Numerals.{add-one}
use native.Mathlib.Omega.{arith}
use lib.ListN.{length}
use Rattle.steps.specs.Tones.{sum}
use Rattle.starts.proofs.Copied.{rests-room, none-starts}
use Rattle.starts.proofs.no_bits.Goals as goal

pub loop-steps-init : goal.loop-steps-init
unfolding sum
loop-steps-init c = refl

pub overflow_add-power : goal.overflow_add-power
overflow_add-power c =
    let p = c.requires in
    omega (arith, c.loop-steps.invariant, rests-room p.rests_in_range c.loop-steps.steps-index c.loop-steps-test.true p.count_le_most_tones)

pub loop-steps-preserved : goal.loop-steps-preserved
unfolding sum
loop-steps-preserved c = rw add-one (omega (arith, c.loop-steps.invariant))

pub returns : goal.returns
returns c =
    let all : c.loop-steps.steps-index ≡ length c.args.tones.now = omega arith in
    let sum_is = rw all at c.loop-steps.invariant in
    record { value = rw sum_is refl; stands = none-starts sum_is }
