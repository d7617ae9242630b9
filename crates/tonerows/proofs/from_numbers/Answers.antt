-- `tonerows::from_numbers` meets its contract. Assumes nothing.
use mathlib.Core.List.{[], ◌∷◌}
use mathlib.Core.Path.{◌≡◌, sym, ap, ◌∙◌}
use Prim.Native.Nat.{◌+◌}
use native.Mathlib.Omega.{arith}
use Rattle.std.specs.Prelude.{Err}
use Rattle.bigendian.specs.Number.{number}
use Rattle.bigendian.proofs.Numbers.{number-there}
use Rattle.rows.proofs.Judging.{below, in_range, number-operands}
use Rattle.tonerows.proofs.from_numbers.Goals.{After-number_at, After-number_at-2}
use Rattle.tonerows.proofs.from_numbers.Goals as goal

noise-read : (c : After-number_at) → let a = c.args in c.number_at.result ≡ number a.s.now a.at 2
noise-read c = c.number_at.ensures.meaning ∙ number-there _ _ 2 (omega arith) (omega arith)

gain-read : (c : After-number_at-2) → let a = c.args in c.number_at-2.result ≡ number a.s.now (a.at + 2) 2
gain-read c = c.number_at-2.ensures.meaning ∙ number-there _ _ 2 (omega arith) (omega arith)

pub returns-then-number_at-lt1 : goal.returns-then-number_at-lt1
returns-then-number_at-lt1 c = λ h known.
    ap Err c.out_of_range.ensures
    ∙ sym (number-operands h known _ _ _ c.args.is_single ∙ below _ _ _ _ (noise-read (goal.at.returns-then-number_at-lt1 c).After-number_at) c.if-number_at-lt1.true)

pub returns-then-number_at-lt1-2 : goal.returns-then-number_at-lt1-2
returns-then-number_at-lt1-2 c = λ h known.
    ap Err c.out_of_range-then-number_at-lt1-2.ensures
    ∙ sym (number-operands h known _ _ _ c.args.is_single
    ∙ in_range _ _ _ _ (noise-read (goal.at.returns-then-number_at-lt1-2 c).After-number_at) c.if-number_at-lt1.false (omega (arith, c.number_at.ensures.range))
    ∙ below _ _ _ _ (gain-read (goal.at.returns-then-number_at-lt1-2 c).After-number_at-2) c.if-number_at-lt1-2.true)

pub returns : goal.returns
returns c = λ h known.
    let a = c.args in
    let noise = number a.s.now a.at 2 in
    let gain = number a.s.now (a.at + 2) 2 in
    rw c.most_cap-most.ensures at (c.from_cap.ensures h known (noise ∷ gain ∷ []))
    ∙ sym (number-operands h known _ _ _ c.args.is_single
    ∙ in_range _ _ _ _ (noise-read (goal.at.returns c).After-number_at) c.if-number_at-lt1.false (omega (arith, c.number_at.ensures.range))
    ∙ in_range _ _ _ _ (gain-read (goal.at.returns c).After-number_at-2) c.if-number_at-lt1-2.false (omega (arith, c.number_at-2.ensures.range)))
