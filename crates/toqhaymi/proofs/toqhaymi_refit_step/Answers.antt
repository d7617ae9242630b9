-- `toqhaymi::toqhaymi_refit_step` meets its contract. Assumes nothing.
use Rattle.std.proofs.Common.{refl}
use Rattle.loadings.specs.Refits.{refit_numbers}
use Rattle.answers.proofs.Hosted.{short-writes, long-writes}
use Rattle.toqhaymi.proofs.toqhaymi_refit_step.Goals as goal

pub returns-then-answer-lt-ANSWER_BYTES : goal.returns-then-answer-lt-ANSWER_BYTES
returns-then-answer-lt-ANSWER_BYTES c =
    let p = short-writes _ _ _ c.if-answer-lt-ANSWER_BYTES.true c.without_room.ensures _ _ in
    record { returned = p.0; bytes = p.1.0; answers = p.1.1 }

pub returns : goal.returns
returns c =
    let e = c.refit_step.ensures in
    let p = long-writes _ 3 refit_numbers (λ a. refl) (λ q. refl) _ _ c.if-answer-lt-ANSWER_BYTES.false e.numbers (c.reply.ensures.returned, c.reply.ensures.bytes) _ e.bytes in
    record { returned = p.0; bytes = p.1.0; answers = p.1.1 }
