-- `places::takes_rest` meets its contract. Assumes nothing.
use mathlib.Core.Path.{◌≡◌, sym, ap, ◌∙◌}
use Prim.Native.Nat.{ℕ}
use native.Mathlib.Omega.{arith}
use lib.Dec.{eqb}
use lib.ListN.{get_or}
use Rattle.line.specs.declared.Tone.{Tone}
use Rattle.line.specs.Tone.{is_rest}
use Rattle.addresses.specs.Addresses.{short_of}
use Rattle.places.proofs.Rests.{reading-rest, numbers-rest, numbers-there, levels-there, ratio-there, tone-there}
use Rattle.places.proofs.takes_rest.Goals.{After-short_of}
use Rattle.places.proofs.takes_rest.Goals as goal

-- the short command's byte, as the code has it
short-is : (c : After-short_of) → let a = c.args in c.short_of.result ≡ short_of (get_or a.s.now a.place 0)
short-is c = rw (sym c.byte_at.ensures) c.short_of.ensures

pub reading_takes-requires : goal.reading_takes-requires
reading_takes-requires c = rw (c.both_at.ensures, c.carried_at-carried.ensures) (rw (levels-there c.args.s.now c.args.place (short-is (goal.at.reading_takes-requires c).After-short_of) c.in-9.is) at c.requires).kind.usable

pub reading_takes-requires-in-10 : goal.reading_takes-requires-in-10
reading_takes-requires-in-10 c = rw (c.float_at.ensures, c.carried_at-carried.ensures) (rw (ratio-there c.args.s.now c.args.place (short-is (goal.at.reading_takes-requires-in-10 c).After-short_of) c.in-10.is) at c.requires).kind.usable

pub numbers_take-requires : goal.numbers_take-requires
numbers_take-requires c =
    let a = c.args in
    rw (c.numbers_at.ensures, c.carried_at-carried.ensures) (numbers-there a.gap a.rest _ (eqb c.short_of.result 5) (rw (tone-there c.args.s.now c.args.place (short-is (goal.at.numbers_take-requires c).After-short_of) (λ e. omega (arith, e)) (λ e. omega (arith, e))) at c.requires))

-- the test of a tone that is the one there
here : (gap rest : ℕ) {t u : Tone} → t ≡ u → is_rest gap u rest ≡ is_rest gap t rest
here gap rest e = ap (λ (x : Tone). is_rest gap x rest) (sym e)

pub returns-in-9 : goal.returns-in-9
returns-in-9 c =
    let a = c.args in
    let is = levels-there c.args.s.now c.args.place (short-is (goal.at.returns-in-9 c).After-short_of) c.in-9.is in
    rw (c.both_at.ensures, c.number_at-mask.ensures.meaning, c.carried_at-carried.ensures) at c.reading_takes.ensures
    ∙ reading-rest a.gap a.rest _ (rw is at c.requires)
    ∙ here a.gap a.rest is

pub returns-in-10 : goal.returns-in-10
returns-in-10 c =
    let a = c.args in
    let is = ratio-there c.args.s.now c.args.place (short-is (goal.at.returns-in-10 c).After-short_of) c.in-10.is in
    rw (c.float_at.ensures, c.number_at-mask-in-10.ensures.meaning, c.carried_at-carried.ensures) at c.reading_takes-in-10.ensures
    ∙ reading-rest a.gap a.rest _ (rw is at c.requires)
    ∙ here a.gap a.rest is

pub returns-in_default : goal.returns-in_default
returns-in_default c =
    let a = c.args in
    rw (c.numbers_at.ensures, c.carried_at-carried.ensures) at c.numbers_take.ensures
    ∙ numbers-rest a.gap a.rest _ (eqb c.short_of.result 5)
    ∙ here a.gap a.rest (tone-there c.args.s.now c.args.place (short-is (goal.at.returns-in_default c).After-short_of) (λ e. omega (arith, e)) (λ e. omega (arith, e)))
