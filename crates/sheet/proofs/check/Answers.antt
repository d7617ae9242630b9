-- `sheet::check` meets its contract: what it counts in the index is what it counts of the line. Assumes nothing.
use native.Mathlib.Omega.{arith}
use Rattle.std.proofs.lemmas.Result.{err_from_is_err_and}
use Rattle.silence.proofs.Maps.{counted-le}
use Rattle.sheet.specs.Reading.{reading}
use Rattle.sheet.proofs.Uses.{read-line, refused-is, size_high}
use Rattle.sheet.proofs.Counts.{counts-are, check-numbers}
use Rattle.sheet.proofs.check.Goals as goal

pub placed_count-requires : goal.placed_count-requires
placed_count-requires c = size_high (read-line c.in_ok-header.ensures).index (λ i. (c.type_inv.s i).fits)

pub overflow_cast-result : goal.overflow_cast-result
overflow_cast-result c = record { fits = omega (arith, counted-le _ _ c.silenced_count.ensures) }

pub returns-in_err-header : goal.returns-in_err-header
returns-in_err-header c =
    let p = err_from_is_err_and c.from_residual.result c.from_residual.ensures.1 in
    rw (p.1, p.2) (check-numbers (reading c.args.s.now) (simp (refused-is c.in_err-header.ensures)))

pub returns : goal.returns
returns c = check-numbers (reading c.args.s.now) (counts-are (read-line c.in_ok-header.ensures) (λ i. (c.type_inv.s i).fits) c.placed_count.ensures c.silenced_count.ensures)
