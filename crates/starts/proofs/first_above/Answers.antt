-- `starts::first_above` meets its contract. Assumes nothing.
use borrow.Author.Rules.{rules}
use borrow.Author.Tests.{tests}
use Rattle.std.proofs.lemmas.Iterator.{YieldsList-from_slice, YieldsList-from_zip, IsFirst-from_position}
use Rattle.starts.proofs.First.{over, keeps, found-first}
use Rattle.starts.proofs.first_above.Goals as goal

pub returns : goal.returns
returns c =
    found-first c.args.start.now c.args.tones.now c.requires _
    (IsFirst-from_position c.position.new.self _ _ over keeps c.position.ensures.ran
    (YieldsList-from_zip (YieldsList-from_slice c.args.start.now cc) (YieldsList-from_slice c.args.tones.now cc))
    (λ x q k. search (rules, tests)) (λ x q k. search (rules, tests)))
