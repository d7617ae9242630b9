-- `silence::silenced_count` meets its contract. Assumes nothing.
use mathlib.Core.Path.{refl}
use native.Mathlib.Omega.{arith}
use Rattle.silence.specs.Map.{count}
use Rattle.silence.proofs.Maps.{counted-le, count_word}
use Rattle.silence.proofs.silenced_count.Goals as goal

pub loop-map-init : goal.loop-map-init
unfolding count
loop-map-init c = refl

pub overflow_add-n : goal.overflow_add-n
overflow_add-n c = record { fits = omega (arith, counted-le _ _ c.loop-map.invariant, counted-le _ _ c.tones_in-n.ensures) }

pub loop-map-preserved : goal.loop-map-preserved
loop-map-preserved c = omega (arith, c.loop-map.invariant, c.tones_in-n.ensures, count_word c.args.maps.now c.loop-map.map-index)
