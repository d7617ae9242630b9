-- `limits::limits` meets its contract. Assumes nothing.
use mathlib.Core.Path.{refl, ◌∙◌}
use native.Mathlib.Omega.{arith}
use Rattle.std.proofs.lemmas.Result.{err_from_is_err_and}
use Rattle.sheet.proofs.Uses.{read-line, refused-is, size_is}
use Rattle.sheet.proofs.Writes.{refused-ends, short-ends, written-ends}
use Rattle.limits.proofs.Bytes.{length-limits}
use Rattle.limits.proofs.Outcomes.{limits-write}
use Rattle.limits.proofs.limits.Goals as goal

pub returns-in_err-header : goal.returns-in_err-header
returns-in_err-header c =
    let p = err_from_is_err_and c.from_residual.result c.from_residual.ensures.1 in
    let w = refused-ends limits-write _ c.args.out.now (refused-is c.in_err-header.ensures) refl in
    rw (p.1, p.2) (record { answer = w.0; numbers = w.1.0; bytes = w.1.1 })

pub returns-then-out-header : goal.returns-then-out-header
returns-then-out-header c =
    let x = read-line c.in_ok-header.ensures in
    let w = short-ends limits-write x.means c.args.out.now (omega (arith, length-limits x.index.line, size_is x.index, c.if-out-header.true)) refl in
    record { answer = w.0; numbers = w.1.0; bytes = w.1.1 }

pub put_limits-requires : goal.put_limits-requires
put_limits-requires c = record { indexed = (read-line c.in_ok-header.ensures).index; size_in_bounds = omega (arith, c.if-out-header.false) }

pub returns : goal.returns
returns c =
    let x = read-line c.in_ok-header.ensures in
    let w = written-ends limits-write x.means c.args.out.now (omega (arith, length-limits x.index.line, size_is x.index, c.if-out-header.false)) refl in
    record { answer = w.0; numbers = w.1.0; bytes = c.put_limits.ensures x.index.line x.index.means ∙ w.1.1 }
