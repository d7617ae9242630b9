-- `readings::float_of` meets its contract. Assumes nothing.
use mathlib.Core.Path.{◌≡◌, sym, ◌∙◌}
use mathlib.Core.Bool.{true}
use lib.Ieee.{binary32, nan_bits}
use lib.Ieee.Bits.{nan_bits_is}
use Rattle.readings.specs.Reading.{is_usable, float_of}
use Rattle.readings.proofs.Readings.{float_is, usable-not-nan}
use Rattle.readings.proofs.float_of.Goals.{Then-is_usable}
use Rattle.readings.proofs.float_of.Goals as goal

usable : (c : Then-is_usable) → is_usable c.args.bits ≡ true
usable c = sym c.is_usable.ensures ∙ c.if-is_usable.true

pub float_from_bits-result : goal.float_from_bits-result
float_from_bits-result c = let bits = c.args.bits in rw (nan_bits_is binary32 bits) (usable-not-nan bits (usable (goal.at.float_from_bits-result c).Then-is_usable))

pub returns-then-is_usable : goal.returns-then-is_usable
returns-then-is_usable c = sym (float_is c.args.bits (usable (goal.at.returns-then-is_usable c).Then-is_usable))

pub float_from_bits-result-2 : goal.float_from_bits-result-2
unfolding nan_bits
float_from_bits-result-2 c = tt

pub returns : goal.returns
unfolding float_of
returns c = rw (sym c.is_usable.ensures ∙ c.if-is_usable.false)
