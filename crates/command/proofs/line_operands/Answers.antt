-- `command::line_operands` meets its contract. Assumes nothing.
use mathlib.Core.Path.{◌≡◌}
use native.Mathlib.Omega.{arith}
use Rattle.rows.specs.Rows.{row_at}
use Rattle.rows.proofs.Judging.{end_row}
use Rattle.command.proofs.line_operands.Goals as goal

pub silence_command-requires : goal.silence_command-requires
silence_command-requires c = record {
  silence_command_in_bounds = omega (arith, rw c.in-6.is at c.requires.code_in_bounds);
  s_len_bound = omega arith;
}

pub tenths_command-requires : goal.tenths_command-requires
tenths_command-requires c = record {
  tenths_command_in_bounds = omega (arith, rw c.in-8.is at c.requires.code_in_bounds);
  s_len_bound = omega arith;
}

pub returns-in-6 : goal.returns-in-6
returns-in-6 c = λ known. rw c.in-6.is (c.silence_command.ensures known)

pub returns-in-8 : goal.returns-in-8
returns-in-8 c = λ known. rw c.in-8.is (c.tenths_command.ensures known)

pub returns-in_default : goal.returns-in_default
unfolding row_at
returns-in_default c = λ known. let none : c.args.code ≡ 0 = omega arith in rw none

pub returns-in_default-2 : goal.returns-in_default-2
unfolding row_at
returns-in_default-2 c = λ known.
    let code = c.args.code in
    let r = c.requires in
    rw (end_row code r.no_tone r.no_rest r.no_high (λ e. omega arith) (λ e. omega arith) (λ e. omega arith) (λ e. omega arith) (λ e. omega arith))
