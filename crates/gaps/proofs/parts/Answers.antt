-- `gaps::parts` meets its contract: the table's rule is a test of its entries, which is computed. Assumes nothing.
use native.Mathlib.Omega.{arith}
use borrow.Author.Tests.{lt-ltb, le-ltb}
use Rattle.gaps.proofs.Rule.{right, all_right, table_is}
use Rattle.gaps.proofs.parts.Goals as goal

pub returns-then-tenths-gt-MOST_TENTHS : goal.returns-then-tenths-gt-MOST_TENTHS
returns-then-tenths-gt-MOST_TENTHS c = rw (c.in-Tenths.is, lt-ltb _ _ c.if-tenths-gt-MOST_TENTHS.true)

pub of_tenths-requires : goal.of_tenths-requires
unfolding right all_right
of_tenths-requires c = record {
  tenths_table = table_is _ tt;
  tenths_le_most_tenths = omega arith;
}

pub returns-else-tenths-gt-MOST_TENTHS : goal.returns-else-tenths-gt-MOST_TENTHS
returns-else-tenths-gt-MOST_TENTHS c = rw (c.in-Tenths.is, le-ltb _ _ c.if-tenths-gt-MOST_TENTHS.false) c.of_tenths.ensures
