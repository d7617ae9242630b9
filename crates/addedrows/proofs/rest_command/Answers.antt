-- `addedrows::rest_command` meets its contract. Assumes nothing.
use mathlib.Core.Bool.{Bool}
use mathlib.Core.Path.{◌≡◌, sym, ap, ◌∙◌}
use Prim.Native.Nat.{ℕ, ◌+◌, ◌<◌}
use native.Mathlib.Omega.{arith}
use borrow.Author.Rules.{rules}
use Rattle.std.specs.Prelude.{Ok, Err}
use Rattle.bigendian.specs.Number.{number}
use Rattle.bigendian.proofs.Numbers.{number-there}
use Rattle.gaps.specs.Gap.{parts}
use Rattle.refusals.specs.declared.Refusal.TheVariants.{RestOutOfRange}
use Rattle.addresses.specs.Addresses.{number_width}
use Rattle.places.specs.Places.{entry_at}
use Rattle.rows.specs.declared.Command.TheVariants.{Rest}
use Rattle.rows.specs.Rows.{is_rest_of}
use Rattle.rows.proofs.Judging.{rest-judged}
use Rattle.addedrows.specs.Adding.{takes_at, adding_to}
use Rattle.addedrows.proofs.Judged.{adding-tone, adding-taken, taken-there, rest-adding}
use Rattle.addedrows.proofs.rest_command.Goals.{After-number_at-rest, After-takes_rest, In_ok-tone}
use Rattle.addedrows.proofs.rest_command.Goals as goal

-- what the tone comes to, by the code's account of it
takes : (c : In_ok-tone) → let a = c.args in
    adding_to a.header.size (number a.s.now (a.at + 1) (number_width a.code)) (a.at + 1) (takes_at a.noted.own a.noted.rest) ≡ Ok c.in_ok-tone.tone
takes c = sym c.judge_tone.ensures ∙ c.in_ok-tone.was

there : (c : In_ok-tone) → 0 < c.args.noted.own
there c =
    let a = c.args in
    taken-there a.noted.own a.noted.rest (adding-taken a.header.size (number a.s.now (a.at + 1) (number_width a.code)) (a.at + 1) (takes_at a.noted.own a.noted.rest) _ (takes c))

pub takes_rest-requires : goal.takes_rest-requires
takes_rest-requires c = rw c.parts.ensures (c.requires.in_range (there (goal.at.takes_rest-requires c).In_ok-tone))

-- the rest as the code has it
rest_read : (c : After-number_at-rest) → let a = c.args in c.number_at-rest.result ≡ number a.s.now (a.at + 1 + number_width a.code) 4
rest_read c = rw c.number_width.ensures.0 at c.number_at-rest.ensures.meaning ∙ number-there _ _ 4 (omega arith) (omega (arith, c.requires.code_in_bounds))

-- what the operands come to is what the test of the rest decides
judged : (c : After-takes_rest) (widened : ℕ) (b : Bool) → let a = c.args in
    0 < a.noted.own
    → c.number_at-rest.result ≡ number a.s.now (a.at + 1 + number_width a.code) 4
    → c.takes_rest.result ≡ b
    → is_rest_of (parts a.header.gap) (entry_at a.s.now a.noted.own a.noted.rest widened) (number a.s.now (a.at + 1 + number_width a.code) 4) ≡ b
judged c widened b l read e =
    let a = c.args in
    rest-judged a.s.now a.noted.own a.noted.rest widened (parts a.header.gap) (number a.s.now (a.at + 1 + number_width a.code) 4) l
    ∙ sym (rw (c.parts.ensures, read) at c.takes_rest.ensures)
    ∙ e

pub returns-in_err-tone : goal.returns-in_err-tone
returns-in_err-tone c = λ widened.
    let a = c.args in
    search (rules, rest-adding a.header a.s.now a.at (number_width a.code) a.noted.own a.noted.rest widened)

pub returns-then-not-takes_rest : goal.returns-then-not-takes_rest
returns-then-not-takes_rest c = λ widened.
    let a = c.args in
    let p = goal.at.returns-then-not-takes_rest c in
    let is = judged p.After-takes_rest widened _ (there p.In_ok-tone) (rest_read p.After-number_at-rest) c.if-not-takes_rest.true in
    ap (λ (w : ℕ). Err (RestOutOfRange (a.at + 1 + w))) c.number_width.ensures.0
    ∙ sym (rest-adding a.header a.s.now a.at (number_width a.code) a.noted.own a.noted.rest widened ∙ rw (takes p.In_ok-tone, is))

pub returns : goal.returns
returns c = λ widened.
    let a = c.args in
    let p = goal.at.returns c in
    let is = judged p.After-takes_rest widened _ (there p.In_ok-tone) (rest_read p.After-number_at-rest) c.if-not-takes_rest.false in
    ap (λ (tone : ℕ). Ok (Rest tone)) (adding-tone a.header.size (number a.s.now (a.at + 1) (number_width a.code)) (a.at + 1) (takes_at a.noted.own a.noted.rest) _ (takes p.In_ok-tone))
    ∙ sym (rest-adding a.header a.s.now a.at (number_width a.code) a.noted.own a.noted.rest widened ∙ rw (takes p.In_ok-tone, is))
