-- `sampletext::read_bytes` meets its contract. The loop's invariant: the buffer keeps its length, and the reading is within it. The measure is what is left of the text: a turn takes what stands up to a group and the group. Assumes nothing.
use Rattle.std.proofs.Common.{◌≡◌, ◌-◌, ◌≤◌, length}
use Rattle.sampletext.proofs.read_bytes.Given as goal

abbrev pub invariant-loop-at : goal.invariant-loop-at
invariant-loop-at l = (length l.buffer ≡ length l.initial.buffer) × (l.reading.bytes ≤ length l.buffer)

abbrev pub decreases-loop-at : goal.decreases-loop-at
decreases-loop-at l = length l.text - l.at
