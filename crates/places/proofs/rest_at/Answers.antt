-- `places::rest_at` meets its contract. Assumes nothing.
use mathlib.Core.Path.{sym, ◌∙◌}
use native.Mathlib.Omega.{arith}
use Rattle.places.proofs.Entries.{no_rest, rest-there}
use Rattle.places.proofs.rest_at.Goals as goal

pub returns-then-place-lt1 : goal.returns-then-place-lt1
returns-then-place-lt1 c = sym (no_rest c.args.s.now c.args.place (omega arith))

pub returns : goal.returns
returns c =
    let a = c.args in
    c.number_at.ensures.meaning ∙ rw c.carried_at-carried.ensures (sym (rest-there a.s.now a.place (omega arith)))
