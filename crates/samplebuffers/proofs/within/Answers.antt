-- `samplebuffers::within` meets its contract. The lesser of the two numbers is at most the buffer's length, and so counts bytes of it. Assumes nothing.
use Rattle.std.proofs.Common.{arith}
use Rattle.io.proofs.Counting.{prefix_len_of_le}
use Rattle.samplebuffers.proofs.within.Goals as goal

pub returns-clause-prefix_len : goal.returns-clause-prefix_len
returns-clause-prefix_len c = prefix_len_of_le _ _ (omega arith)
