-- `outside::outside_budgets` meets its contract: without room for the answers it is what the call on no bytes is. Assumes nothing.
use Rattle.std.proofs.Common.{◌≡◌, refl, sym, ap, ◌∙◌, length, lt-ltb, le-ltb, Ok, Err}
use Rattle.sizes.specs.Sizes.{answer_room}
use Rattle.budgets.proofs.Outcomes.{no_bytes}
use Rattle.refusals.specs.Writing.{write_answer, write_numbers}
use Rattle.answers.proofs.Stored.{untouched}
use Rattle.answers.proofs.Hosted.{ends}
use Rattle.outside.proofs.outside_budgets.Goals as goal

-- a buffer of no bytes has room for no totals, so that call is turned down: this end is not met
pub returns-in-Ok : goal.returns-in-Ok
returns-in-Ok c =
    let t = no_bytes c.args.sheet.now c.args.list.now in
    let refused : Ok tt ≡ Err t.why = c.in-Ok.ensures.answer ∙ ap write_answer t.is in
    absurd (cc)

pub returns-in-Err : goal.returns-in-Err
returns-in-Err c =
    let a = c.args in
    let e = c.in-Err.ensures.numbers in
    rw (lt-ltb (length a.answer.now) answer_room c.if-answer-lt-ANSWER_BYTES.true, ← e)
    (record { returned = c.refused.ensures; bytes = refl; answers = sym (untouched 0 c.in-Err.why a.answer.now) })

pub returns : goal.returns
returns c =
    let a = c.args in
    let e = c.budgets-2.ensures in
    let p = ends _ 0 write_numbers (λ a. refl) (λ q. refl) _ e.numbers a.answer.now (c.reply.ensures.returned, c.reply.ensures.bytes) in
    rw (le-ltb (length a.answer.now) answer_room c.if-answer-lt-ANSWER_BYTES.false) (record { returned = p.0; bytes = e.bytes; answers = p.1 })
