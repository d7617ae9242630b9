-- `addedrows::high_command` meets its contract. Assumes nothing.
use mathlib.Core.Bool.{Bool}
use mathlib.Core.Path.{◌≡◌, sym, ap, ◌∙◌}
use Prim.Native.Nat.{ℕ, ◌+◌, ◌<◌}
use native.Mathlib.Omega.{arith}
use borrow.Author.Rules.{rules}
use borrow.Author.Tests.{le-ltb, lt-ltb}
use Rattle.std.specs.Prelude.{Ok, Err}
use Rattle.bigendian.specs.Number.{number}
use Rattle.bigendian.proofs.Numbers.{number-there}
use Rattle.addresses.specs.Addresses.{number_width}
use Rattle.places.specs.Places.{entry_at}
use Rattle.noises.specs.Noises.{entry_has_noise, entry_low}
use Rattle.rows.specs.declared.Command.TheVariants.{High}
use Rattle.rows.proofs.Judging.{out_of_range, noise-judged, low-judged}
use Rattle.addedrows.specs.Adding.{takes_at, adding_to}
use Rattle.addedrows.proofs.Judged.{adding-tone, adding-taken, taken-there, high-adding}
use Rattle.addedrows.proofs.high_command.Goals.{After-has_noise, After-noise_at, After-number_at-high, In_ok-tone}
use Rattle.addedrows.proofs.high_command.Goals as goal

-- what the tone comes to, by the code's account of it
takes : (c : In_ok-tone) → let a = c.args in
    adding_to a.header.size (number a.s.now (a.at + 1) (number_width a.code)) (a.at + 1) (takes_at a.noted.own a.noted.high) ≡ Ok c.in_ok-tone.tone
takes c = sym c.judge_tone.ensures ∙ c.in_ok-tone.was

there : (c : In_ok-tone) → 0 < c.args.noted.own
there c =
    let a = c.args in
    taken-there a.noted.own a.noted.high (adding-taken a.header.size (number a.s.now (a.at + 1) (number_width a.code)) (a.at + 1) (takes_at a.noted.own a.noted.high) _ (takes c))

-- whether the tone has a noise, and which, as the code finds it
has : (c : After-has_noise) (rested : ℕ) (b : Bool) → let a = c.args in
    0 < a.noted.own → c.has_noise.result ≡ b → entry_has_noise (entry_at a.s.now a.noted.own rested a.noted.high) ≡ b
has c rested b l e = let a = c.args in noise-judged a.s.now a.noted.own rested a.noted.high l ∙ sym c.has_noise.ensures ∙ e

low : (c : After-noise_at) (rested : ℕ) → let a = c.args in 0 < a.noted.own → c.noise_at.result ≡ entry_low (entry_at a.s.now a.noted.own rested a.noted.high)
low c rested l = let a = c.args in c.noise_at.ensures ∙ sym (low-judged a.s.now a.noted.own rested a.noted.high l)

-- the high noise as the code has it
high_read : (c : After-number_at-high) → let a = c.args in c.number_at-high.result ≡ number a.s.now (a.at + 1 + number_width a.code) 2
high_read c = rw c.number_width.ensures.0 at c.number_at-high.ensures.meaning ∙ number-there _ _ 2 (omega arith) (omega (arith, c.requires.code_in_bounds))

pub returns-in_err-tone : goal.returns-in_err-tone
returns-in_err-tone c = λ rested.
    let a = c.args in
    search (rules, high-adding a.header a.s.now a.at (number_width a.code) a.noted.own rested a.noted.high)

pub returns-then-not-has_noise : goal.returns-then-not-has_noise
returns-then-not-has_noise c = λ rested.
    let a = c.args in
    let p = goal.at.returns-then-not-has_noise c in
    let none = has p.After-has_noise rested _ (there p.In_ok-tone) c.if-not-has_noise.true in
    ap Err c.out_of_range.ensures ∙ sym (high-adding a.header a.s.now a.at (number_width a.code) a.noted.own rested a.noted.high ∙ rw (takes p.In_ok-tone, none))

pub returns-then-high-noise_at : goal.returns-then-high-noise_at
returns-then-high-noise_at c = λ rested.
    let a = c.args in
    let p = goal.at.returns-then-high-noise_at c in
    let some = has p.After-has_noise rested _ (there p.In_ok-tone) c.if-not-has_noise.false in
    let below = rw (high_read p.After-number_at-high, low p.After-noise_at rested (there p.In_ok-tone)) at c.if-high-noise_at.true in
    ap Err c.out_of_range-then-high-noise_at.ensures
    ∙ ap (λ (w : ℕ). out_of_range (a.at + 1 + w)) c.number_width.ensures.0
    ∙ sym (high-adding a.header a.s.now a.at (number_width a.code) a.noted.own rested a.noted.high ∙ rw (takes p.In_ok-tone, some, lt-ltb _ _ below))

pub returns : goal.returns
returns c = λ rested.
    let a = c.args in
    let p = goal.at.returns c in
    let some = has p.After-has_noise rested _ (there p.In_ok-tone) c.if-not-has_noise.false in
    let no-lower = rw (high_read p.After-number_at-high, low p.After-noise_at rested (there p.In_ok-tone)) at c.if-high-noise_at.false in
    ap (λ (tone : ℕ). Ok (High tone)) (adding-tone a.header.size (number a.s.now (a.at + 1) (number_width a.code)) (a.at + 1) (takes_at a.noted.own a.noted.high) _ (takes p.In_ok-tone))
    ∙ sym (high-adding a.header a.s.now a.at (number_width a.code) a.noted.own rested a.noted.high ∙ rw (takes p.In_ok-tone, some, le-ltb _ _ no-lower))
