-- `sampletext::decimal` meets its contract. Assumes nothing.
use Rattle.std.proofs.Common.{sym, ◌∙◌}
use Rattle.sampletext.proofs.Characters.{spelled-end, spelled-other, spelled-full, spelled-next}
use Rattle.sampletext.proofs.decimal.Goals as goal
use Rattle.sampletext.proofs.decimal.Goals.{then-d-gt9-via-then-d-gt9, then-d-gt9-via-else-d-gt9+then-value-gt999999999}

pub loop-i-preserved : goal.loop-i-preserved
loop-i-preserved c = sym (spelled-next _ _ c.loop-i-test.true _ c.digit-d.ensures.0 c.if-d-gt9.false c.if-value-gt999999999.false) ∙ c.loop-i.invariant

pub returns-then-d-gt9-clause-value : goal.returns-then-d-gt9-clause-value
returns-then-d-gt9-clause-value c =
    elim c.then-d-gt9.branch [
      | then-d-gt9-via-then-d-gt9 w ↦ sym (spelled-other _ _ c.loop-i-test.true _ c.digit-d.ensures.0 w.if-d-gt9.true) ∙ c.loop-i.invariant
      | then-d-gt9-via-else-d-gt9+then-value-gt999999999 w ↦
          sym (spelled-full _ _ c.loop-i-test.true _ c.digit-d.ensures.0 w.if-d-gt9.false w.if-value-gt999999999.true) ∙ c.loop-i.invariant
    ]

pub returns-clause-value : goal.returns-clause-value
returns-clause-value c = sym (spelled-end _ _ c.loop-i-test.false _) ∙ c.loop-i.invariant
