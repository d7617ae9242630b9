-- `bigendian::put_number` meets its contract. Between the turns the bytes still to be written make what is there into the whole. Assumes nothing.
use mathlib.Core.Path.{◌≡◌}
use Prim.Native.Nat.{◌-◌}
use lib.Seq.{sets}
use Rattle.bigendian.specs.Number.{bytes}
use Rattle.bigendian.proofs.put_number.Given as goal

abbrev pub invariant-loop-i : goal.invariant-loop-i
invariant-loop-i l = sets l.out l.at (bytes (l.i - l.at) l.rest) ≡ sets l.fn.out l.at (bytes l.width l.value)
