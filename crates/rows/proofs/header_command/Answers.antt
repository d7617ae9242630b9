-- `rows::header_command` meets its contract. Assumes nothing.
use mathlib.Core.Path.{◌≡◌, sym, ap, ◌∙◌}
use Prim.Native.Nat.{◌+◌}
use native.Mathlib.Omega.{arith}
use Rattle.std.specs.Prelude.{Err}
use Rattle.bigendian.specs.Number.{number}
use Rattle.bigendian.proofs.Numbers.{number-there}
use Rattle.rows.proofs.Judging.{below, above, in_range, one-operand, header-width}
use Rattle.rows.proofs.header_command.Goals.{After-number_at-budget, After-number_at-n, then-n-lt1-via-then-n-lt1, then-n-lt1-via-else-n-lt1+then-n}
use Rattle.rows.proofs.header_command.Goals as goal

-- the operand is there, and is read
budget-read : (c : After-number_at-budget) → let a = c.args in c.number_at-budget.result ≡ number a.s.now (a.at + 1) 8
budget-read c =
    c.number_at-budget.ensures.meaning ∙ number-there _ _ 8 (omega arith) (omega (arith, rw c.if-code-eq3.true at c.requires.code_in_bounds))

two-read : (c : After-number_at-n) → let a = c.args in c.number_at-n.result ≡ number a.s.now (a.at + 1) 2
two-read c =
    let s = c in
    c.number_at-n.ensures.meaning ∙ number-there _ _ 2 (omega arith) (omega (arith, header-width s.args.code s.requires.le_code (omega arith)))

pub returns-then-budget-gt-MOST_POWER : goal.returns-then-budget-gt-MOST_POWER
returns-then-budget-gt-MOST_POWER c known =
    rw c.if-code-eq3.true
    (ap Err c.out_of_range.ensures
    ∙ sym (one-operand _ known _ _ _ _ _ _ _ ∙ above _ _ _ _ (budget-read (goal.at.returns-then-budget-gt-MOST_POWER c).After-number_at-budget) (omega arith) c.if-budget-gt-MOST_POWER.true))

pub returns-then-code-eq3 : goal.returns-then-code-eq3
returns-then-code-eq3 c known =
    rw (c.if-code-eq3.true, budget-read (goal.at.returns-then-code-eq3 c).After-number_at-budget)
    (sym (one-operand _ known _ _ _ _ _ _ _ ∙ in_range _ _ _ _ (budget-read (goal.at.returns-then-code-eq3 c).After-number_at-budget) (omega arith) c.if-budget-gt-MOST_POWER.false))

pub returns-then-n-lt-GAP_UNIT : goal.returns-then-n-lt-GAP_UNIT
returns-then-n-lt-GAP_UNIT c known =
    rw c.if-code-eq2.true
    (ap Err c.out_of_range-then-n-lt-GAP_UNIT.ensures ∙ sym (one-operand _ known _ _ _ _ _ _ _ ∙ below _ _ _ _ (two-read (goal.at.returns-then-n-lt-GAP_UNIT c).After-number_at-n) c.if-n-lt-GAP_UNIT.true))

pub returns-then-code-eq2 : goal.returns-then-code-eq2
returns-then-code-eq2 c known =
    rw (c.if-code-eq2.true, two-read (goal.at.returns-then-code-eq2 c).After-number_at-n)
    (sym (one-operand _ known _ _ _ _ _ _ _ ∙ in_range _ _ _ _ (two-read (goal.at.returns-then-code-eq2 c).After-number_at-n) c.if-n-lt-GAP_UNIT.false (omega (arith, c.number_at-n.ensures.range))))

pub returns-then-n-lt1 : goal.returns-then-n-lt1
returns-then-n-lt1 c known =
    let is_one : c.args.code ≡ 1 = omega arith in
    let n_read = two-read (goal.at.returns-then-n-lt1 c).After-number_at-n in
    rw is_one
    (ap Err c.out_of_range-then-n-lt1.ensures
    ∙ sym (one-operand _ known _ _ _ _ _ _ _ ∙ elim c.then-n-lt1.branch [ then-n-lt1-via-then-n-lt1 w ↦ below _ _ _ _ n_read w.if-n-lt1.true | then-n-lt1-via-else-n-lt1+then-n w ↦ above _ _ _ _ n_read w.if-n-lt1.false w.if-n.true ]))

pub returns : goal.returns
returns c known =
    let is_one : c.args.code ≡ 1 = omega arith in
    rw (is_one, two-read (goal.at.returns c).After-number_at-n)
    (sym (one-operand _ known _ _ _ _ _ _ _ ∙ in_range _ _ _ _ (two-read (goal.at.returns c).After-number_at-n) c.if-n-lt1.false c.if-n.false))
