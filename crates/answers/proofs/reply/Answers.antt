-- `answers::reply` meets its contract. Assumes nothing.
use Rattle.std.proofs.Common.{sym}
use Rattle.answers.proofs.Stored.{untouched}
use Rattle.answers.proofs.reply.Goals as goal

pub returns-in-Err-clause-bytes : goal.returns-in-Err-clause-bytes
returns-in-Err-clause-bytes g c = rw c.in-Err.is (sym (untouched 0 c.in-Err.why c.args.buffer.now))
