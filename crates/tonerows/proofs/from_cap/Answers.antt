-- `tonerows::from_cap` meets its contract. Assumes nothing.
use mathlib.Core.Path.{◌≡◌, refl, sym, ap, ◌∙◌}
use Prim.Native.Nat.{◌+◌}
use native.Mathlib.Omega.{arith}
use Rattle.std.specs.Prelude.{Err}
use Rattle.bigendian.specs.Number.{number}
use Rattle.bigendian.proofs.Numbers.{number-there}
use Rattle.rows.proofs.Judging.{above, in_range, cap-operands}
use Rattle.tonerows.proofs.from_cap.Goals.{After-number_at}
use Rattle.tonerows.proofs.from_cap.Goals as goal

mask-read : (c : After-number_at) → let a = c.args in c.number_at.result ≡ number a.s.now (a.at + 1) 8
mask-read c = c.number_at.ensures.meaning ∙ number-there _ _ 8 (omega arith) (omega arith)

pub returns-then-most-s : goal.returns-then-most-s
returns-then-most-s c = λ h known values.
    ap Err c.out_of_range.ensures ∙ sym (cap-operands h known _ _ _ values _ ∙ above _ _ _ _ refl (omega arith) c.if-most-s.true)

pub returns-then-number_at-gt-MOST_POWER : goal.returns-then-number_at-gt-MOST_POWER
returns-then-number_at-gt-MOST_POWER c = λ h known values.
    ap Err c.out_of_range-then-number_at-gt-MOST_POWER.ensures
    ∙ sym (cap-operands h known _ _ _ values _
    ∙ in_range _ _ _ _ refl (omega arith) c.if-most-s.false
    ∙ above _ _ _ _ (mask-read (goal.at.returns-then-number_at-gt-MOST_POWER c).After-number_at) (omega arith) c.if-number_at-gt-MOST_POWER.true)

pub returns : goal.returns
returns c = λ h known values.
    sym (cap-operands h known _ _ _ values _
    ∙ in_range _ _ _ _ refl (omega arith) c.if-most-s.false
    ∙ in_range _ _ _ _ (mask-read (goal.at.returns c).After-number_at) (omega arith) c.if-number_at-gt-MOST_POWER.false)
