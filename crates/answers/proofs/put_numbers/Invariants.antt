-- `answers::put_numbers` meets its contract. The loop's invariant: the first `i` numbers are stored. Assumes nothing.
use Rattle.std.proofs.Common.{◌≡◌, take}
use lib.Seq.{sets}
use Rattle.answers.specs.Answers.{answer_bytes}
use Rattle.answers.proofs.put_numbers.Given as goal

abbrev pub invariant-loop-i : goal.invariant-loop-i
invariant-loop-i l = l.buffer ≡ sets l.initial.buffer 0 (answer_bytes (take l.i l.numbers))
