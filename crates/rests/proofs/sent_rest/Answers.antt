-- `rests::sent_rest` meets its contract. Assumes nothing.
use mathlib.Core.Path.{sym}
use native.Mathlib.Omega.{arith}
use Rattle.rests.proofs.Sent.{none-sent}
use Rattle.rests.proofs.sent_rest.Goals as goal

pub returns-then-place-lt1 : goal.returns-then-place-lt1
returns-then-place-lt1 c =
    let a = c.args in
    sym (none-sent a.s.now a.place a.maps.now a.tone (omega arith))

pub returns-then-is_silenced : goal.returns-then-is_silenced
returns-then-is_silenced c = rw (sym c.is_silenced.ensures, c.if-is_silenced.true)

pub returns : goal.returns
returns c = rw (sym c.is_silenced.ensures, c.if-is_silenced.false) c.rest_at.ensures
