-- `tidy::words_bytes` meets its contract. Between the turns the words before `map` are counted. Assumes nothing.
use mathlib.Core.Path.{◌≡◌}
use Prim.Native.Nat.{◌*◌, ◌≤◌}
use lib.ListN.{length}
use Rattle.sizes.specs.Sizes.{silence_command}
use Rattle.tidyform.specs.Tidy.{map_bytes}
use Rattle.tidy.proofs.words_bytes.Given as goal

abbrev pub invariant-loop-map : goal.invariant-loop-map
invariant-loop-map l = (l.bytes ≡ length (map_bytes l.map-index l.maps)) × (l.bytes ≤ silence_command * l.map-index)
