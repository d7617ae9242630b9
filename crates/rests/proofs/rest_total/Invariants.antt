-- `rests::rest_total` meets its contract: between its turns the rests of the tones before this one are added. Assumes nothing.
use mathlib.Core.Path.{◌≡◌}
use Prim.Native.Nat.{◌*◌, ◌^◌, ◌≤◌}
use Rattle.rests.specs.Rests.{rests_sent}
use Rattle.rests.proofs.rest_total.Given as goal

abbrev pub invariant-loop-tone : goal.invariant-loop-tone
invariant-loop-tone l = record { added : l.total ≡ rests_sent l.s l.noted l.maps l.tone; bounded : l.total ≤ 2 ^ 32 * l.tone }
