-- `sampletext::read_group` meets its contract. The loop's invariant: the buffer keeps its length, and the reading is within it. The measure is the number of turns that are left. Assumes nothing.
use Rattle.std.proofs.Common.{◌≡◌, ◌-◌, ◌≤◌, length}
use Rattle.sampletext.proofs.read_group.Given as goal

abbrev pub invariant-loop-turn : goal.invariant-loop-turn
invariant-loop-turn l = (length l.buffer ≡ length l.initial.buffer) × (l.reading.bytes ≤ length l.buffer)

abbrev pub decreases-loop-turn : goal.decreases-loop-turn
decreases-loop-turn l = l.times - l.turn
