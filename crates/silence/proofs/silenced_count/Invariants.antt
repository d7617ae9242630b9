-- `silence::silenced_count` meets its contract. Assumes nothing.
use mathlib.Core.Path.{◌≡◌}
use Prim.Native.Nat.{◌*◌}
use Rattle.silence.specs.Map.{silenced, count}
use Rattle.silence.proofs.silenced_count.Given as goal

abbrev pub invariant-loop-map : goal.invariant-loop-map
invariant-loop-map l = l.n ≡ count (32 * l.map-index) (silenced l.maps)
