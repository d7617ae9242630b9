-- `sheet::placed_count` meets its contract. Between the turns n is the count so far. Assumes nothing.
use mathlib.Core.Path.{refl, ap}
use native.Mathlib.Omega.{arith}
use borrow.Author.Tests.{lt-ltb, le-ltb}
use lib.ListN.{get_or}
use Rattle.silence.specs.Map.{one, count}
use Rattle.silence.proofs.Maps.{counted-le, count-more}
use Rattle.places.specs.Places.{nowhere}
use Rattle.sheet.proofs.placed_count.Invariants.{placed}
use Rattle.sheet.proofs.placed_count.Goals.{then-tones-tone-gt0, else-tones-tone-gt0}
use Rattle.sheet.proofs.placed_count.Goals as goal

pub loop-tone-init : goal.loop-tone-init
unfolding count
loop-tone-init c = refl

pub overflow_add-n : goal.overflow_add-n
overflow_add-n c = record { fits = omega (arith, counted-le _ _ c.loop-tone.invariant) }

pub loop-tone-preserved : goal.loop-tone-preserved
loop-tone-preserved c =
    let place = (get_or c.args.tones.now c.loop-tone.tone nowhere).own in
    let more = count-more c.loop-tone.tone (placed c.args.tones.now) in
    elim c.if-tones-tone-gt0.branch [
      | then-tones-tone-gt0 w ↦ omega (arith, more, ap one (lt-ltb 0 place w.if-tones-tone-gt0.true))
      | else-tones-tone-gt0 w ↦ omega (arith, more, ap one (le-ltb 0 place w.if-tones-tone-gt0.false))
    ]
