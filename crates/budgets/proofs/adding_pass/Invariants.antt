-- `budgets::adding_pass` meets its contract. Before each budget the pass has come as far as the one before it. Assumes nothing.
use lib.ListN.{length}
use Rattle.budgets.proofs.Pass.{Passing}
use Rattle.budgets.proofs.adding_pass.Given as goal

abbrev pub invariant-loop-k : goal.invariant-loop-k
invariant-loop-k l =
    Passing (length l.tones) l.tones l.list l.budgets l.initial.out l.out l.running l.ranks.free l.ranks.held l.moves l.k
