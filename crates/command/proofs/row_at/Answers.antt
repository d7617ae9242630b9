-- `command::row_at` meets its contract. Assumes nothing.
use mathlib.Core.Path.{sym}
use native.Mathlib.Omega.{arith}
use Rattle.command.proofs.Rows.{row_cut, row-whole}
use Rattle.command.proofs.row_at.Goals as goal

pub returns-then-s-at : goal.returns-then-s-at
returns-then-s-at c =
    let a = c.args in
    sym (row_cut _ _ a.s.now a.at a.code c.bytes_of-bytes.ensures.0 (omega (arith, c.if-s-at.true)))

pub operands-requires : goal.operands-requires
operands-requires c = record {
  code_in_bounds = omega (arith, c.if-s-at.false, c.bytes_of-bytes.ensures.0, c.requires.at_in_bounds);
  s_len_bound = omega arith;
  entry_in_range = c.requires.entry_in_range;
}

pub returns : goal.returns
returns c =
    rw c.operands.ensures
    (sym (row-whole _ _ _ c.args.at c.args.code c.bytes_of-bytes.ensures.0 (omega (arith, c.if-s-at.false, c.requires.at_in_bounds))))
