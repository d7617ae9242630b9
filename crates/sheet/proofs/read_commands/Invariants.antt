-- `sheet::read_commands` meets its contract. Assumes nothing.
use Prim.Native.Nat.{suc, ◌-◌}
use lib.ListN.{length}
use Rattle.sheet.proofs.Turns.{Going}
use Rattle.sheet.proofs.read_commands.Given as goal

abbrev pub invariant-loop-h : goal.invariant-loop-h
invariant-loop-h l = Going l.s l.index l.header l.at l.stage

abbrev pub decreases-loop-h : goal.decreases-loop-h
decreases-loop-h l = suc (length l.s) - l.at
