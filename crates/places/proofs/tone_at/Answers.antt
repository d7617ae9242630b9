-- `places::tone_at` meets its contract. Assumes nothing.
use borrow.Author.Tests.{ne_eqb}
use mathlib.Core.Path.{◌≡◌, sym}
use native.Mathlib.Omega.{arith}
use lib.ListN.{get_or}
use Rattle.addresses.specs.Addresses.{short_of}
use Rattle.places.proofs.tone_at.Goals.{After-short_of}
use Rattle.places.proofs.tone_at.Goals as goal

-- the short command's byte, as the code has it
short-is : (c : After-short_of) → let a = c.args in short_of (get_or a.s.now a.place 0) ≡ c.short_of.result
short-is c = rw (sym c.byte_at.ensures) (sym c.short_of.ensures)

pub returns-in-5 : goal.returns-in-5
returns-in-5 c = rw (short-is (goal.at.returns-in-5 c).After-short_of, c.in-5.is, c.numbers_at.ensures, c.carried_at-carried.ensures)

pub returns-in-9 : goal.returns-in-9
returns-in-9 c = rw (short-is (goal.at.returns-in-9 c).After-short_of, c.in-9.is, c.levels_at.ensures, c.carried_at-carried.ensures)

pub returns-in-10 : goal.returns-in-10
returns-in-10 c = rw (short-is (goal.at.returns-in-10 c).After-short_of, c.in-10.is, c.ratio_at.ensures, c.carried_at-carried.ensures)

pub returns-in_default : goal.returns-in_default
returns-in_default c =
    let short = c.short_of.result in
    rw (
      short-is (goal.at.returns-in_default c).After-short_of,
      ne_eqb short 5 (λ e. omega (arith, e)),
      ne_eqb short 9 (λ e. omega (arith, e)),
      ne_eqb short 10 (λ e. omega (arith, e)),
      c.numbers_at-in_default.ensures,
      c.carried_at-carried.ensures,
    )
