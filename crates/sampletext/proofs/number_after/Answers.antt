-- `sampletext::number_after` meets its contract. Past the text no digit stands. Assumes nothing.
use Rattle.std.proofs.Common.{◌+◌, arith}
use Rattle.sampletext.proofs.Characters.{spelled-end}
use Rattle.sampletext.proofs.number_after.Goals as goal

pub returns-then-text-at : goal.returns-then-text-at
returns-then-text-at c = omega (arith, spelled-end c.args.text.now (c.args.at + 1) (omega arith) 0)
