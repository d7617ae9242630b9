-- `bigendian::number_at` meets its contract. Between the turns n is the number that the bytes read so far spell. Assumes nothing.
use mathlib.Core.Path.{◌≡◌}
use Prim.Native.Nat.{◌^◌, ◌<◌}
use Rattle.bigendian.specs.Number.{byte_base, number}
use Rattle.bigendian.proofs.number_at.Given as goal

abbrev pub invariant-loop-byte : goal.invariant-loop-byte
invariant-loop-byte l = record { spelt : l.n ≡ number l.s l.at l.byte-index; range : l.n < byte_base ^ l.byte-index }
