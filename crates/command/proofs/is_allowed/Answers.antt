-- `command::is_allowed` meets its contract. Assumes nothing.
use mathlib.Core.Path.{sym}
use native.Mathlib.Omega.{arith}
use borrow.Author.Tests.{ne_eqb}
use Rattle.command.proofs.Rows.{one-row, some-late, added-late, twin-late, added-twin-late, none-late}
use Rattle.command.proofs.is_allowed.Goals as goal

pub returns-in-0 : goal.returns-in-0
returns-in-0 c = rw c.in-0.is (one-row _ _)

pub returns-then-code-eq2 : goal.returns-then-code-eq2
returns-then-code-eq2 c = rw (c.in-1.is, c.if-code-eq2.true)

pub returns-else-code-eq2 : goal.returns-else-code-eq2
returns-else-code-eq2 c = rw (c.in-1.is, ne_eqb _ 2 c.if-code-eq2.false) (one-row _ _)

pub returns-in-2 : goal.returns-in-2
returns-in-2 c = rw c.in-2.is (one-row _ _)

pub returns-in-4-to-7 : goal.returns-in-4-to-7
returns-in-4-to-7 c = let a = c.args in sym (some-late a.stage a.code (omega arith) (omega arith) (omega arith))

pub returns-in-4-to-7-2 : goal.returns-in-4-to-7-2
returns-in-4-to-7-2 c = let a = c.args in sym (added-late a.stage a.code (omega arith) (omega arith) (omega arith))

pub returns-in-4-to-7-3 : goal.returns-in-4-to-7-3
returns-in-4-to-7-3 c = let a = c.args in sym (twin-late a.stage a.code (omega arith) (omega arith) (omega arith))

pub returns-in-4-to-7-4 : goal.returns-in-4-to-7-4
returns-in-4-to-7-4 c = let a = c.args in sym (added-twin-late a.stage a.code (omega arith) (omega arith) (omega arith))

pub returns-in_default-matches : goal.returns-in_default-matches
returns-in_default-matches c = let a = c.args in sym (none-late a.stage a.code (omega arith) (λ l h. omega arith) (λ l h. omega arith) (λ l h. omega arith) (λ l h. omega arith))

pub returns-in_default-matches-2 : goal.returns-in_default-matches-2
returns-in_default-matches-2 c = let a = c.args in sym (none-late a.stage a.code (omega arith) (λ l h. omega arith) (λ l h. omega arith) (λ l h. omega arith) (λ l h. omega arith))

pub returns-in_default-matches-3 : goal.returns-in_default-matches-3
returns-in_default-matches-3 c = let a = c.args in sym (none-late a.stage a.code (omega arith) (λ l h. omega arith) (λ l h. omega arith) (λ l h. omega arith) (λ l h. omega arith))

pub returns-in_default-matches-4 : goal.returns-in_default-matches-4
returns-in_default-matches-4 c = let a = c.args in sym (none-late a.stage a.code (omega arith) (λ l h. omega arith) (λ l h. omega arith) (λ l h. omega arith) (λ l h. omega arith))

pub returns-in_default-matches-5 : goal.returns-in_default-matches-5
returns-in_default-matches-5 c = let a = c.args in sym (none-late a.stage a.code (omega arith) (λ l h. omega arith) (λ l h. omega arith) (λ l h. omega arith) (λ l h. omega arith))
