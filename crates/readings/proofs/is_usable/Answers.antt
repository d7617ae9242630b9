-- `readings::is_usable` meets its contract. Assumes nothing.
use native.Mathlib.Omega.{arith}
use mathlib.Core.Path.{◌≡◌}
use lib.Ieee.{of_bits, of_fields, odd}
use Rattle.readings.proofs.Patterns.{usable-bits}
use Rattle.readings.proofs.is_usable.Goals as goal

pub returns-then-bits-gt0 : goal.returns-then-bits-gt0
returns-then-bits-gt0 c = usable-bits c.args.bits (omega arith)

pub returns-else-bits-gt0 : goal.returns-else-bits-gt0
unfolding of_bits of_fields odd
returns-else-bits-gt0 c =
    let e : c.args.bits ≡ 0 = omega arith in
    rw e
