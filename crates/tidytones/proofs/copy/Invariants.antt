-- `tidytones::copy` meets its contract. Between the turns the first `i` bytes are copied. Assumes nothing.
use Prim.Native.Nat.{◌+◌}
use Rattle.lists.proofs.Joined.{Written}
use Rattle.tidylengths.specs.Copies.{byte_from}
use Rattle.tidytones.proofs.copy.Given as goal

abbrev pub invariant-loop-i : goal.invariant-loop-i
invariant-loop-i l = Written (byte_from l.bytes 0) l.initial.out l.at l.i l.out (l.at + l.i)
