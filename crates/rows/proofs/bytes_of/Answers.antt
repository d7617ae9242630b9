-- `rows::bytes_of` meets its contract. Assumes nothing.
use mathlib.Core.Logic.{⊎_elim}
use native.Mathlib.Omega.{arith}
use Rattle.rows.specs.Codes.{ToneCode, RestCode, HighCode}
use Rattle.addresses.proofs.Widths.{neither}
use Rattle.rows.proofs.Judging.{end_row}
use Rattle.rows.proofs.bytes_of.Goals.{In_default}
use Rattle.rows.proofs.bytes_of.Goals as goal

pub returns-in-1 : goal.returns-in-1
returns-in-1 c = (rw c.in-1.is, omega arith)

pub returns-in-2 : goal.returns-in-2
returns-in-2 c = (rw c.in-2.is, omega arith)

pub returns-in-3 : goal.returns-in-3
returns-in-3 c = (rw c.in-3.is, omega arith)

pub returns-in-4 : goal.returns-in-4
returns-in-4 c = (rw c.in-4.is, omega arith)

pub returns-in-5 : goal.returns-in-5
returns-in-5 c = (rw c.in-5.is, omega arith)

pub returns-in-6 : goal.returns-in-6
returns-in-6 c = (rw c.in-6.is, omega arith)

pub returns-in-8 : goal.returns-in-8
returns-in-8 c = (rw c.in-8.is, omega arith)

pub returns-in-9 : goal.returns-in-9
returns-in-9 c = (rw c.in-9.is, omega arith)

pub returns-in-10 : goal.returns-in-10
returns-in-10 c = (rw c.in-10.is, omega arith)

pub returns-in-11 : goal.returns-in-11
returns-in-11 c = (rw c.in-11.is, omega arith)

pub returns-in-12 : goal.returns-in-12
returns-in-12 c = (rw c.in-12.is, omega arith)

pub returns-in-20 : goal.returns-in-20
returns-in-20 c = (rw c.in-20.is, omega arith)

pub returns-in-21 : goal.returns-in-21
returns-in-21 c = (rw c.in-21.is, omega arith)

pub returns-in-25 : goal.returns-in-25
returns-in-25 c = (rw c.in-25.is, omega arith)

pub returns-in-26 : goal.returns-in-26
returns-in-26 c = (rw c.in-26.is, omega arith)

pub returns-in-27 : goal.returns-in-27
returns-in-27 c = (rw c.in-27.is, omega arith)

pub returns-in-28 : goal.returns-in-28
returns-in-28 c = (rw c.in-28.is, omega arith)

-- a byte that is none of those addresses no tone
no-tone : (c : In_default) → ToneCode c.args.code → ⊥
no-tone c =
    let code = c.args.code in
    ⊎_elim (⊎_elim (neither code 4 (λ e. omega (arith, e)) (λ e. omega (arith, e))) (neither code 5 (λ e. omega (arith, e)) (λ e. omega (arith, e)))) (⊎_elim (neither code 9 (λ e. omega (arith, e)) (λ e. omega (arith, e))) (neither code 10 (λ e. omega (arith, e)) (λ e. omega (arith, e))))

no_rest : (c : In_default) → RestCode c.args.code → ⊥
no_rest c =
    neither c.args.code 11 (λ e. omega (arith, e)) (λ e. omega (arith, e))

no_high : (c : In_default) → HighCode c.args.code → ⊥
no_high c =
    neither c.args.code 12 (λ e. omega (arith, e)) (λ e. omega (arith, e))

pub returns-in_default : goal.returns-in_default
returns-in_default c =
    (rw (end_row c.args.code (no-tone (goal.at.returns-in_default c).In_default) (no_rest (goal.at.returns-in_default c).In_default) (no_high (goal.at.returns-in_default c).In_default) (λ e. omega (arith, e)) (λ e. omega (arith, e)) (λ e. omega (arith, e)) (λ e. omega (arith, e)) (λ e. omega (arith, e))), omega arith)
