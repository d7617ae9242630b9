-- `tonerows::tone_command` meets its contract. Assumes nothing.
use mathlib.Core.Path.{◌≡◌, sym, ap, ◌∙◌}
use mathlib.Core.List.{List, [], ◌∷◌}
use Prim.Native.Nat.{ℕ, ◌+◌, ◌≤◌, ◌<◌}
use native.Mathlib.Omega.{arith}
use borrow.Author.Tests.{le-leb, lt-leb, le-ltb, lt-ltb}
use lib.Dec.{eqb}
use lib.ListN.{length}
use Rattle.bigendian.specs.Number.{number}
use Rattle.addresses.specs.Addresses.{number_width, short_of}
use Rattle.rows.specs.declared.Header.{Header}
use Rattle.rows.specs.Rows.{Operand, numbers, level_operands, ratio_operands, width, describes_from, row_at}
use Rattle.rows.specs.Codes.{known_at, tone_operands, tone_row}
use Rattle.rows.proofs.Judging.{described-at, tone-operands, number-codes}
use Rattle.tonerows.proofs.tone_command.Goals.{After-number_width, In-10, In-9, In_default}
use Rattle.tonerows.proofs.tone_command.Goals as goal

-- a tone of the line that is not described leaves it to the operands after its number
from-tone : (h : Header) (s : List ℕ) (at code place rest high tone : ℕ) (os : List Operand)
    → tone ≡ number s (at + 1) (number_width code)
    → tone < h.size
    → place ≤ 0
    → tone_operands (short_of code) ≡ os
    → row_at h (known_at s place rest high) s at (tone_row code)
    ≡ describes_from h (known_at s place rest high) (number s (at + 1) (number_width code) ∷ []) s (at + 1 + number_width code) os
from-tone h s at code place rest high tone os is of_line free e =
    tone-operands _ _ _ _ (number_width code) (short_of code) (tone_operands (short_of code))
    ∙ rw (lt-leb _ _ (rw is at of_line), described-at s rest high place, le-ltb 0 place free)
    (ap (describes_from h (known_at s place rest high) (number s (at + 1) (number_width code) ∷ []) s (at + 1 + number_width code)) e)

-- the operands after the number, in each arm
levels-are : (c : In-9) → tone_operands (short_of c.args.code) ≡ level_operands
levels-are c = ap tone_operands (sym c.short_of.ensures ∙ c.in-9.is)

ratio-are : (c : In-10) → tone_operands (short_of c.args.code) ≡ ratio_operands
ratio-are c = ap tone_operands (sym c.short_of.ensures ∙ c.in-10.is)

whole_numbers : (c : In_default) → tone_operands (short_of c.args.code) ≡ numbers (eqb c.short_of.result 5)
whole_numbers c = rw (sym c.short_of.ensures) (number-codes c.short_of.result (λ e. omega arith) (λ e. omega arith))

-- they are there
room : (c : After-number_width) (os : List Operand) → tone_operands (short_of c.args.code) ≡ os
    → c.args.at + 1 + c.number_width.result + width os ≤ length c.args.s.now
room c os e = omega (arith, c.number_width.ensures.0, ap width e, c.requires.code_in_bounds)

pub returns-then-header-tone : goal.returns-then-header-tone
returns-then-header-tone c = λ rest high.
    sym (tone-operands _ _ _ _ (number_width c.args.code) _ _ ∙ rw (le-leb _ _ (rw c.tone_number-tone.ensures at c.if-header-tone.true)))

pub returns-then-noted-gt0 : goal.returns-then-noted-gt0
returns-then-noted-gt0 c = λ rest high.
    let a = c.args in
    sym
    (tone-operands _ _ _ _ (number_width a.code) _ _
    ∙ rw (lt-leb _ _ (rw c.tone_number-tone.ensures at c.if-header-tone.false), described-at a.s.now rest high a.noted.own, lt-ltb 0 a.noted.own (omega arith)))

pub from_levels-requires : goal.from_levels-requires
from_levels-requires c = record {
  level_operands_in_bounds = room (goal.at.from_levels-requires c).After-number_width level_operands (levels-are (goal.at.from_levels-requires c).In-9);
  s_len_bound = omega arith;
}

pub from_ratio-requires : goal.from_ratio-requires
from_ratio-requires c = record {
  ratio_operands_in_bounds = room (goal.at.from_ratio-requires c).After-number_width ratio_operands (ratio-are (goal.at.from_ratio-requires c).In-10);
  s_len_bound = omega arith;
}

pub from_numbers-requires : goal.from_numbers-requires
from_numbers-requires c = record {
  is_single_in_bounds = room (goal.at.from_numbers-requires c).After-number_width (numbers (eqb c.short_of.result 5)) (whole_numbers (goal.at.from_numbers-requires c).In_default);
  s_len_bound = omega arith;
}

pub returns-in-9 : goal.returns-in-9
returns-in-9 c = λ rest high.
    let a = c.args in
    let os = levels-are (goal.at.returns-in-9 c).In-9 in
    rw (c.tone_number-tone.ensures, c.number_width.ensures.0) at (c.from_levels.ensures (known_at a.s.now a.noted.own rest high))
    ∙ sym (from-tone a.header a.s.now a.at a.code a.noted.own rest high _ level_operands c.tone_number-tone.ensures c.if-header-tone.false c.if-noted-gt0.false os)

pub returns-in-10 : goal.returns-in-10
returns-in-10 c = λ rest high.
    let a = c.args in
    let os = ratio-are (goal.at.returns-in-10 c).In-10 in
    rw (c.tone_number-tone.ensures, c.number_width.ensures.0) at (c.from_ratio.ensures (known_at a.s.now a.noted.own rest high))
    ∙ sym (from-tone a.header a.s.now a.at a.code a.noted.own rest high _ ratio_operands c.tone_number-tone.ensures c.if-header-tone.false c.if-noted-gt0.false os)

pub returns-in_default : goal.returns-in_default
returns-in_default c = λ rest high.
    let a = c.args in
    let os = whole_numbers (goal.at.returns-in_default c).In_default in
    rw (c.tone_number-tone.ensures, c.number_width.ensures.0) at (c.from_numbers.ensures a.header (known_at a.s.now a.noted.own rest high))
    ∙ sym (from-tone a.header a.s.now a.at a.code a.noted.own rest high _ (numbers (eqb c.short_of.result 5)) c.tone_number-tone.ensures c.if-header-tone.false c.if-noted-gt0.false os)
