-- `sampletext::read_bytes` meets its contract. The loop's invariant: the buffer keeps its length, and the reading is within it. The measure is what is left of the text: a turn takes what stands up to a group and the group. Assumes nothing.
use Rattle.std.proofs.Common.{ℕ, ◌+◌, ◌-◌, ◌<◌, ◌≤◌, arith}
use Rattle.io.proofs.Counting.{prefix_len_of_le}
use Rattle.sampletext.proofs.read_bytes.Goals as goal

-- After the number of a group less of the n characters is left.
less-left : (n at group close next : ℕ) → at < n → at ≤ group → group + 1 ≤ close → close ≤ next → n - next < n - at
less-left n at group close next inside to-group to-close to-next = omega arith

pub loop-at-smaller : goal.loop-at-smaller
loop-at-smaller c =
    less-left _ _ _ _ _ c.loop-at-test.true c.find-open.ensures.bounds.0 c.find-close.ensures.bounds.0 c.times_at-times.ensures.0

pub returns-after-loop-at : goal.returns-after-loop-at
returns-after-loop-at c = prefix_len_of_le _ _ (omega arith)

pub returns-then-open-text : goal.returns-then-open-text
returns-then-open-text c = prefix_len_of_le _ _ (omega arith)
