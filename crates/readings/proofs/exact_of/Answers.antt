-- `readings::exact_of` meets its contract. Assumes nothing.
use native.Mathlib.Omega.{arith}
use Rattle.readings.proofs.Patterns.{subnormal-value, normal-value}
use Rattle.readings.proofs.exact_of.Goals as goal

pub returns-then-field-eq0 : goal.returns-then-field-eq0
returns-then-field-eq0 c = record {
  value = subnormal-value c.args.bits (omega arith);
  range = omega arith;
}

pub returns : goal.returns
returns c = record {
  value = normal-value c.args.bits (omega (arith, c.if-field-eq0.false)) c.requires;
  range = omega arith;
}
