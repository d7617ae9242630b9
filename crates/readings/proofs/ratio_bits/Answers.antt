-- `readings::ratio_bits` meets its contract. Assumes nothing.
use mathlib.Core.Path.{sym, ap}
use lib.Ieee.{binary32, to_bits}
use Rattle.readings.specs.Reading.{ratio}
use Rattle.readings.proofs.Ratio.{ratio-not-nan}
use Rattle.readings.proofs.ratio_bits.Goals as goal

pub float_to_bits-result : goal.float_to_bits-result
float_to_bits-result c = let a = c in rw c.in-Both.is at (ratio-not-nan a.args.reading a.requires)

pub float_to_bits-result-in-Ratio : goal.float_to_bits-result-in-Ratio
float_to_bits-result-in-Ratio c = let a = c in rw c.in-Ratio.is at (ratio-not-nan a.args.reading a.requires)

pub returns-in-Both : goal.returns-in-Both
returns-in-Both c = sym (ap (λ r. to_bits binary32 (ratio r)) c.in-Both.is)

pub returns-in-Ratio : goal.returns-in-Ratio
returns-in-Ratio c = sym (ap (λ r. to_bits binary32 (ratio r)) c.in-Ratio.is)
