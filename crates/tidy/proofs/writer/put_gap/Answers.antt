-- `tidy::writer::put_gap` meets its contract. Assumes nothing.
use mathlib.Core.Path.{◌≡◌, sym, ap, ◌∙◌}
use native.Mathlib.Omega.{arith}
use lib.ListN.{length, length-set}
use Rattle.sizes.specs.Sizes.{gap_command, tenths_command}
use Rattle.bigendian.proofs.Numbers.{number_fits}
use Rattle.tidyform.specs.Tidy.{gap_bytes}
use Rattle.tidyform.proofs.Length.{length-parts, length-tenths}
use Rattle.tidy.proofs.Writes.{parts-stores, tenths-stores}
use borrow.Author.Rules.{rules}
use Rattle.tidy.proofs.writer.put_gap.Goals.{In-Parts, In-Tenths}
use Rattle.tidy.proofs.writer.put_gap.Goals as goal

-- the length of the command, of either unit
parts-long : (c : In-Parts) → length (gap_bytes c.args.gap) ≡ gap_command
parts-long c = ap (λ g. length (gap_bytes g)) c.in-Parts.is ∙ length-parts _

tenths-long : (c : In-Tenths) → length (gap_bytes c.args.gap) ≡ tenths_command
tenths-long c = ap (λ g. length (gap_bytes g)) c.in-Tenths.is ∙ length-tenths _

pub bounds-out-at : goal.bounds-out-at
bounds-out-at c = omega (arith, parts-long (goal.at.bounds-out-at c).In-Parts, c.requires)

pub bounds-out-at-in-Tenths : goal.bounds-out-at-in-Tenths
bounds-out-at-in-Tenths c = omega (arith, tenths-long (goal.at.bounds-out-at-in-Tenths c).In-Tenths, c.requires)

pub bounds-out-at-in-Tenths-2 : goal.bounds-out-at-in-Tenths-2
bounds-out-at-in-Tenths-2 c = simp length-set (omega (arith, tenths-long (goal.at.bounds-out-at-in-Tenths-2 c).In-Tenths, c.requires))

pub returns-in-Parts : goal.returns-in-Parts
returns-in-Parts c =
    let a = c.args in
    record {
      place = omega (arith, parts-long (goal.at.returns-in-Parts c).In-Parts);
      bytes = rw c.in-Parts.is
          (c.put_number.ensures
          ∙ number_fits _ _ _ _ (simp length-set (omega (arith, parts-long (goal.at.returns-in-Parts c).In-Parts, c.requires)))
          ∙ sym (parts-stores a.out.now a.at _));
    }

pub returns-in-Tenths : goal.returns-in-Tenths
returns-in-Tenths c =
    let a = c.args in
    record {
      place = omega (arith, tenths-long (goal.at.returns-in-Tenths c).In-Tenths);
      bytes = rw c.in-Tenths.is (sym (tenths-stores a.out.now a.at _ (search rules)));
    }
