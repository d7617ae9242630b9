-- `answers::UnitAnswer::put` meets its contract. Assumes nothing.
use borrow.Author.Rules.{rules}
use Rattle.answers.specs.Answers.{answer_bytes}
use Rattle.answers.proofs.UnitAnswer.put.Goals as goal

pub returns : goal.returns
unfolding answer_bytes
returns c = search rules
