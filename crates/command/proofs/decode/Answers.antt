-- `command::decode` meets its contract. Assumes nothing.
use mathlib.Core.Path.{sym, ◌∙◌}
use borrow.Author.Tests.{le-leb}
use lib.ListN.{get_or}
use Rattle.command.specs.Format.{decoded}
use Rattle.command.proofs.Rows.{row-found, command-too-long, command-at, no_row, row-there}
use Rattle.command.proofs.decode.Goals as goal

pub returns-then-s-gt-SHEET_BYTES : goal.returns-then-s-gt-SHEET_BYTES
returns-then-s-gt-SHEET_BYTES c = sym (command-too-long _ _ _ _ _ c.if-s-gt-SHEET_BYTES.true)

pub returns-then-s-at : goal.returns-then-s-at
unfolding decoded
returns-then-s-at c = sym (command-at _ _ _ _ _ c.if-s-gt-SHEET_BYTES.false ∙ rw (le-leb _ _ c.if-s-at.true))

pub returns-then-not-is_allowed : goal.returns-then-not-is_allowed
returns-then-not-is_allowed c =
    sym
    (command-at _ _ _ _ _ c.if-s-gt-SHEET_BYTES.false
    ∙ no_row _ _ _ _ _ c.if-s-at.false (sym c.is_allowed.ensures ∙ c.if-not-is_allowed.true))

pub returns : goal.returns
returns c =
    let s = c.args.s.now in
    let allowed = row-found c.args.stage (get_or s c.args.at 0) (sym c.is_allowed.ensures ∙ c.if-not-is_allowed.false) in
    rw c.row_at.ensures (sym (command-at _ _ _ _ _ c.if-s-gt-SHEET_BYTES.false ∙ row-there _ _ _ _ _ c.if-s-at.false allowed))
