-- `samplebuffers::filled` meets its contract. Assumes nothing.
use mathlib.Core.Path.{sym}
use lib.ListN.{get_or-replicate, length-replicate}
use Rattle.samplebuffers.specs.Buffers.{room, fill}
use Rattle.samplebuffers.proofs.filled.Goals as goal

pub returns : goal.returns
returns c = record {
  sized = sym (length-replicate room fill);
  bytes = λ i l. get_or-replicate room i fill 0 l;
}
