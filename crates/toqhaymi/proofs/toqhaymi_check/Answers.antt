-- `toqhaymi::toqhaymi_check` meets its contract. Assumes nothing.
use Rattle.std.proofs.Common.{refl}
use Rattle.sheet.specs.Check.{check_numbers}
use Rattle.answers.proofs.Hosted.{short-answers, long-answers}
use Rattle.toqhaymi.proofs.toqhaymi_check.Goals as goal

pub returns-then-answer-lt-ANSWER_BYTES : goal.returns-then-answer-lt-ANSWER_BYTES
returns-then-answer-lt-ANSWER_BYTES c =
    let p = short-answers _ _ _ c.if-answer-lt-ANSWER_BYTES.true c.without_room.ensures in
    record { returned = p.0; answers = p.1 }

pub returns : goal.returns
returns c =
    let p = long-answers _ 3 check_numbers (λ a. refl) (λ q. refl) _ _ c.if-answer-lt-ANSWER_BYTES.false c.check.ensures.numbers (c.reply.ensures.returned, c.reply.ensures.bytes) in
    record { returned = p.0; answers = p.1 }
