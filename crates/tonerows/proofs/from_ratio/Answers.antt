-- `tonerows::from_ratio` meets its contract. Assumes nothing.
use mathlib.Core.List.{[], ◌∷◌}
use mathlib.Core.Path.{◌≡◌, sym, ap, ◌∙◌}
use native.Mathlib.Omega.{arith}
use Rattle.bigendian.specs.Number.{number}
use Rattle.bigendian.proofs.Numbers.{number-there}
use Rattle.gaps.specs.Gap.{parts}
use Rattle.readings.specs.Reading.{is_usable, is_over}
use Rattle.readings.proofs.Readings.{usable-float}
use Rattle.rows.specs.Rows.{ratio_of}
use Rattle.rows.proofs.Judging.{ratio-operands}
use Rattle.tonerows.proofs.from_ratio.Goals.{After-is_over, After-is_usable, After-number_at-bits}
use Rattle.tonerows.proofs.from_ratio.Goals as goal

bits-read : (c : After-number_at-bits) → let a = c.args in c.number_at-bits.result ≡ number a.s.now a.at 4
bits-read c = c.number_at-bits.ensures.meaning ∙ number-there _ _ 4 (omega arith) (omega arith)

-- the bits as the code has them, and what it makes of them
judged-as : (c : After-is_usable) → let a = c.args in c.number_at-bits.result ≡ number a.s.now a.at 4 → is_usable (number a.s.now a.at 4) ≡ c.is_usable.result
judged-as c e = sym (c.is_usable.ensures ∙ ap is_usable e)

pub returns-then-not-is_usable : goal.returns-then-not-is_usable
returns-then-not-is_usable c = λ known.
    let a = c.args in
    let p = goal.at.returns-then-not-is_usable c in
    let bad = judged-as p.After-is_usable (bits-read p.After-number_at-bits) ∙ c.if-not-is_usable.true in
    sym (ratio-operands a.header known a.s.now a.at a.tone ∙ rw bad)

pub is_over-requires : goal.is_over-requires
is_over-requires c = rw c.float_of-ratio.ensures (usable-float _ (sym c.is_usable.ensures ∙ c.if-not-is_usable.false))

-- what is weighed with the gap
over-as : (c : After-is_over) → let a = c.args in
    c.number_at-bits.result ≡ number a.s.now a.at 4 → is_over (parts a.header.gap) (ratio_of (a.tone ∷ number a.s.now a.at 4 ∷ [])) ≡ c.is_over.result
over-as c e = sym (rw (c.parts.ensures, c.float_of-ratio.ensures, e) at c.is_over.ensures)

pub returns-then-is_over : goal.returns-then-is_over
returns-then-is_over c = λ known.
    let a = c.args in
    let p = goal.at.returns-then-is_over c in
    let read = bits-read p.After-number_at-bits in
    let good = judged-as p.After-is_usable read ∙ c.if-not-is_usable.false in
    let over = over-as p.After-is_over read ∙ c.if-is_over.true in
    sym (ratio-operands a.header known a.s.now a.at a.tone ∙ rw (good, over))

pub returns : goal.returns
returns c = λ known.
    let a = c.args in
    let p = goal.at.returns c in
    let read = bits-read p.After-number_at-bits in
    let good = judged-as p.After-is_usable read ∙ c.if-not-is_usable.false in
    let within = over-as p.After-is_over read ∙ c.if-is_over.false in
    c.from_cap.ensures a.header known (number a.s.now a.at 4 ∷ [])
    ∙ sym (ratio-operands a.header known a.s.now a.at a.tone ∙ rw (good, within))
