-- `rests::rest_total` meets its contract: between its turns the rests of the tones before this one are added. Assumes nothing.
use mathlib.Core.Path.{refl}
use native.Mathlib.Numerals.{add-one}
use native.Mathlib.Omega.{arith}
use Rattle.steps.specs.Tones.{sum}
use Rattle.rests.proofs.rest_total.Goals as goal

pub loop-tone-init : goal.loop-tone-init
unfolding sum
loop-tone-init c = record { added = refl; bounded = omega arith }

pub overflow_add-total : goal.overflow_add-total
overflow_add-total c = omega arith

pub loop-tone-preserved : goal.loop-tone-preserved
unfolding sum
loop-tone-preserved c = record {
  added = rw (c.sent_rest.ensures, add-one c.loop-tone.tone) (omega (arith, c.loop-tone.invariant.added));
  bounded = omega arith;
}
