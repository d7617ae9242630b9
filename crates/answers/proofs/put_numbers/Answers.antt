-- `answers::put_numbers` meets its contract. Assumes nothing.
use Rattle.std.proofs.Common.{refl, ◌∙◌, arith}
use Rattle.answers.specs.Answers.{answer_bytes}
use Rattle.answers.proofs.Stored.{one-stored, all-stored}
use Rattle.answers.proofs.put_numbers.Goals as goal

pub loop-i-init : goal.loop-i-init
unfolding answer_bytes
loop-i-init c = refl

pub loop-i-preserved : goal.loop-i-preserved
loop-i-preserved c = c.put_number.ensures ∙ one-stored c.args.numbers.now c.args.buffer.now (omega arith) c.loop-i.i c.loop-i.invariant c.loop-i-test.true

pub returns : goal.returns
returns c = all-stored c.args.numbers.now c.args.buffer.now (omega arith) c.loop-i.i c.loop-i.invariant c.loop-i-test.false
