-- `samplebuffers::text_buffer` meets its contract. Assumes nothing.
use mathlib.Core.Path.{sym}
use Prim.Native.Nat.{ℕ}
use lib.ListN.{get_or-replicate, length-replicate}
use Rattle.samplebuffers.specs.Buffers.{text_room}
use Rattle.samplebuffers.proofs.text_buffer.Goals as goal

pub returns : goal.returns
returns c = record {
  sized = sym (length-replicate {A = ℕ} text_room 0);
  bytes = λ i l. get_or-replicate {A = ℕ} text_room i 0 0 l;
}
