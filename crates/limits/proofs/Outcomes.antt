-- The limits as a call that writes bytes of the line.
-- Assumes nothing.
use Rattle.std.specs.Prelude.{Result}
use Rattle.refusals.specs.declared.Refusal.{Refusal}
use Rattle.sheet.proofs.Writes.{WritingCall, only-writes}
use Rattle.limits.specs.Limits.{limit_bytes}

abbrev pub limits-write : WritingCall (Result (Unit {0}) Refusal)
limits-write = only-writes limit_bytes
