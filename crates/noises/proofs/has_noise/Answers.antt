-- `noises::has_noise` meets its contract. Assumes nothing.
use mathlib.Core.Path.{sym}
use Rattle.noises.proofs.Places.{levels-no-noise, other-noise}
use Rattle.noises.proofs.has_noise.Goals as goal

pub returns-then-short-ne9 : goal.returns-then-short-ne9
returns-then-short-ne9 c =
    let a = c.args in
    other-noise a.s.now a.place (rw (sym c.byte_at.ensures) c.short_of-short.ensures) c.if-short-ne9.true

pub returns-else-short-ne9 : goal.returns-else-short-ne9
returns-else-short-ne9 c =
    let a = c.args in
    levels-no-noise a.s.now a.place (rw (sym c.byte_at.ensures) c.short_of-short.ensures) c.if-short-ne9.false
