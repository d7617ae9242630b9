-- `line::bounds_of` meets its contract. Assumes nothing.
use mathlib.Core.Path.{sym, ap}
use Rattle.line.specs.Tone.{kind_bounds}
use Rattle.line.proofs.bounds_of.Goals as goal

pub returns-in-Pair : goal.returns-in-Pair
returns-in-Pair c = sym (ap kind_bounds c.in-Pair.is)

pub returns-in-Single : goal.returns-in-Single
returns-in-Single c = sym (ap kind_bounds c.in-Single.is)

pub returns-in-Read : goal.returns-in-Read
returns-in-Read c = sym (ap kind_bounds c.in-Read.is)
