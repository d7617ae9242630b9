-- `tidytones::put_any` meets its contract. Assumes nothing.
use mathlib.Core.Path.{refl, ap}
use native.Mathlib.Omega.{arith}
use lib.ListN.{length}
use Rattle.tidylengths.proofs.Commands.{some-copy, no_copy}
use Rattle.tidytones.proofs.put_any.Goals as goal

pub returns-then-place-lt1 : goal.returns-then-place-lt1
returns-then-place-lt1 c = let a = c.args in rw (no_copy a.s.now a.tone a.place (omega arith)) record { place = omega arith; bytes = refl }

pub put_command-requires : goal.put_command-requires
put_command-requires c =
    let a = c.args in
    let some = some-copy a.s.now a.tone a.place (omega arith) in
    record { place_nonzero = omega arith; inside = c.requires.inside; bytes_in_bounds = omega (arith, c.requires.bytes_in_bounds, ap length some) }

pub returns : goal.returns
returns c = let a = c.args in rw (some-copy a.s.now a.tone a.place (omega arith)) c.put_command.ensures
