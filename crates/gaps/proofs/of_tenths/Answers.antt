-- `gaps::of_tenths` meets its contract. Assumes nothing.
use Rattle.gaps.proofs.Rule.{entry-is}
use Rattle.gaps.proofs.of_tenths.Goals as goal

pub returns : goal.returns
returns c = entry-is c.requires.tenths_table c.args.tenths c.requires.tenths_le_most_tenths
