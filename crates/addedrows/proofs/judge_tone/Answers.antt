-- `addedrows::judge_tone` meets its contract. Assumes nothing.
use mathlib.Core.Path.{sym}
use native.Mathlib.Omega.{arith}
use borrow.Author.Tests.{le-leb, lt-leb, le-ltb, lt-ltb}
use Rattle.addedrows.proofs.judge_tone.Goals.{then-own-lt1-via-then-own-lt1, then-own-lt1-via-else-own-lt1+then-had-gt0}
use Rattle.addedrows.proofs.judge_tone.Goals as goal

pub returns-then-size-tone : goal.returns-then-size-tone
returns-then-size-tone c = rw (le-leb _ _ (rw c.tone_number-tone.ensures at c.if-size-tone.true))

pub returns-then-own-lt1 : goal.returns-then-own-lt1
returns-then-own-lt1 c =
    let of_line = rw c.tone_number-tone.ensures at c.if-size-tone.false in
    rw (lt-leb _ _ of_line)
    (elim c.then-own-lt1.branch [
      | then-own-lt1-via-then-own-lt1 w ↦ sym (rw (le-ltb 0 c.args.own (omega arith)))
      | then-own-lt1-via-else-own-lt1+then-had-gt0 w ↦ sym (rw (lt-ltb 0 c.args.own (omega arith), lt-ltb 0 c.args.had w.if-had-gt0.true))
    ])

pub returns : goal.returns
returns c =
    let of_line = rw c.tone_number-tone.ensures at c.if-size-tone.false in
    rw (c.tone_number-tone.ensures, lt-leb _ _ of_line, lt-ltb 0 c.args.own (omega arith), le-ltb 0 c.args.had c.if-had-gt0.false)
