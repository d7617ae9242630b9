-- `readings::is_over` meets its contract. Assumes nothing.
use Rattle.readings.proofs.Readings.{over-is}
use Rattle.readings.proofs.is_over.Goals as goal

pub returns : goal.returns
returns c = rw c.cost_of.ensures (over-is c.args.gap c.args.reading)
