-- `tidylengths::tones_bytes` meets its contract. Between the turns the tones below `tone` are counted. Assumes nothing.
use mathlib.Core.Path.{◌≡◌}
use Prim.Native.Nat.{◌+◌, ◌*◌, ◌≤◌}
use lib.ListN.{length}
use Rattle.sizes.specs.Sizes.{levels_command}
use Rattle.tidylengths.specs.Copies.{copies}
use Rattle.tidylengths.proofs.tones_bytes.Given as goal

abbrev pub invariant-loop-tone : goal.invariant-loop-tone
invariant-loop-tone l = (l.bytes ≡ length (copies l.tone l.s l.tones)) × (l.bytes ≤ 3 * (levels_command + 2) * l.tone)
