-- `tonerows::from_levels` meets its contract. Assumes nothing.
use mathlib.Core.Bool.{Bool, true, false}
use mathlib.Core.List.{[], ◌∷◌}
use mathlib.Core.Path.{◌≡◌, sym, ap, ◌∙◌}
use Prim.Native.Nat.{ℕ, ◌+◌}
use native.Mathlib.Omega.{arith}
use Rattle.bigendian.specs.Number.{number}
use Rattle.bigendian.proofs.Numbers.{number-there}
use Rattle.gaps.specs.Gap.{parts}
use Rattle.readings.specs.Reading.{is_usable, is_over}
use Rattle.readings.proofs.Readings.{usable-float}
use Rattle.rows.specs.Rows.{levels_of}
use Rattle.rows.proofs.Judging.{level-operands}
use Rattle.tonerows.proofs.from_levels.Goals.{After-is_over, After-number_at-gain, After-number_at-noise, Else-not-is_usable, Else-not-is_usable-2, Then-not-is_usable, Then-not-is_usable-2}
use Rattle.tonerows.proofs.from_levels.Goals as goal

-- the bits of each float as the code has them, and what it makes of them
noise-read : (c : After-number_at-noise) → let a = c.args in c.number_at-noise.result ≡ number a.s.now a.at 4
noise-read c = c.number_at-noise.ensures.meaning ∙ number-there _ _ 4 (omega arith) (omega arith)

gain-read : (c : After-number_at-gain) → let a = c.args in c.number_at-gain.result ≡ number a.s.now (a.at + 4) 4
gain-read c = c.number_at-gain.ensures.meaning ∙ number-there _ _ 4 (omega arith) (omega arith)

judged-as : {bits v : ℕ} {t u : Bool} → t ≡ is_usable bits → bits ≡ v → t ≡ u → is_usable v ≡ u
judged-as e f g = sym (e ∙ ap is_usable f) ∙ g

noise-bad : (c : Then-not-is_usable) → let a = c.args in c.number_at-noise.result ≡ number a.s.now a.at 4 → is_usable (number a.s.now a.at 4) ≡ false
noise-bad c e = judged-as c.is_usable.ensures e c.if-not-is_usable.true

gain-bad : (c : Then-not-is_usable-2) → let a = c.args in c.number_at-gain.result ≡ number a.s.now (a.at + 4) 4 → is_usable (number a.s.now (a.at + 4) 4) ≡ false
gain-bad c e = judged-as c.is_usable-2.ensures e c.if-not-is_usable-2.true

noise-good : (c : Else-not-is_usable) → let a = c.args in c.number_at-noise.result ≡ number a.s.now a.at 4 → is_usable (number a.s.now a.at 4) ≡ true
noise-good c e = judged-as c.is_usable.ensures e c.if-not-is_usable.false

gain-good : (c : Else-not-is_usable-2) → let a = c.args in c.number_at-gain.result ≡ number a.s.now (a.at + 4) 4 → is_usable (number a.s.now (a.at + 4) 4) ≡ true
gain-good c e = judged-as c.is_usable-2.ensures e c.if-not-is_usable-2.false

pub returns-then-not-is_usable : goal.returns-then-not-is_usable
returns-then-not-is_usable c = λ known.
    let a = c.args in
    let p = goal.at.returns-then-not-is_usable c in
    sym (level-operands a.header known a.s.now a.at a.tone ∙ rw (noise-bad p.Then-not-is_usable (noise-read p.After-number_at-noise)))

pub returns-then-not-is_usable-2 : goal.returns-then-not-is_usable-2
returns-then-not-is_usable-2 c = λ known.
    let a = c.args in
    let p = goal.at.returns-then-not-is_usable-2 c in
    let good = noise-good p.Else-not-is_usable (noise-read p.After-number_at-noise) in
    let bad = gain-bad p.Then-not-is_usable-2 (gain-read p.After-number_at-gain) in
    sym (level-operands a.header known a.s.now a.at a.tone ∙ rw (good, bad))

pub is_over-requires : goal.is_over-requires
is_over-requires c =
    let noise = usable-float _ (sym c.is_usable.ensures ∙ c.if-not-is_usable.false) in
    let gain = usable-float _ (sym c.is_usable-2.ensures ∙ c.if-not-is_usable-2.false) in
    (rw c.float_of.ensures noise, rw c.float_of-2.ensures gain)

-- what is weighed with the gap
over-as : (c : After-is_over) → let a = c.args in
    c.number_at-noise.result ≡ number a.s.now a.at 4
    → c.number_at-gain.result ≡ number a.s.now (a.at + 4) 4
    → is_over (parts a.header.gap) (levels_of (a.tone ∷ number a.s.now a.at 4 ∷ number a.s.now (a.at + 4) 4 ∷ [])) ≡ c.is_over.result
over-as c noise gain = sym (rw (c.parts.ensures, c.float_of.ensures, c.float_of-2.ensures, noise, gain) at c.is_over.ensures)

pub returns-then-is_over : goal.returns-then-is_over
returns-then-is_over c = λ known.
    let a = c.args in
    let p = goal.at.returns-then-is_over c in
    let noise = noise-read p.After-number_at-noise in
    let gain = gain-read p.After-number_at-gain in
    let over = over-as p.After-is_over noise gain ∙ c.if-is_over.true in
    sym (level-operands a.header known a.s.now a.at a.tone ∙ rw (noise-good p.Else-not-is_usable noise, gain-good p.Else-not-is_usable-2 gain, over))

pub returns : goal.returns
returns c = λ known.
    let a = c.args in
    let p = goal.at.returns c in
    let noise = noise-read p.After-number_at-noise in
    let gain = gain-read p.After-number_at-gain in
    let within = over-as p.After-is_over noise gain ∙ c.if-is_over.false in
    c.from_cap.ensures a.header known (number a.s.now a.at 4 ∷ number a.s.now (a.at + 4) 4 ∷ [])
    ∙ sym (level-operands a.header known a.s.now a.at a.tone ∙ rw (noise-good p.Else-not-is_usable noise, gain-good p.Else-not-is_usable-2 gain, within))
