-- `sheet::read_commands` meets its contract. Assumes nothing.
use mathlib.Core.Path.{◌≡◌, ap, ◌∙◌}
use native.Mathlib.Omega.{arith}
use borrow.Author.Rules.{rules}
use Rattle.std.specs.Prelude.{Ok}
use Rattle.std.proofs.lemmas.Result.{err_from_is_err_and}
use Rattle.rows.specs.declared.Command.{Command}
use Rattle.addresses.specs.Addresses.{addressed}
use Rattle.command.proofs.Said.{Said}
use Rattle.sheet.specs.Reading.{header_of, known_of}
use Rattle.sheet.proofs.Turns.{starts, known-in-range, Met, heard, described-small, rested-small, widened_small, on-refused, on-more, on-end, on-head, on-describe, on-rest, on-high, on-silence}
use Rattle.sheet.proofs.read_commands.Goals.{In_ok-decoded}
use Rattle.sheet.proofs.read_commands.Goals as goal

-- what was decoded, with what is noted of the tone that the command addresses
met : (c : In_ok-decoded) → Met c.loop-h.invariant c.decode-decoded.result
met c = rw (c.noted-noted.ensures, c.addressed.ensures) at c.decode-decoded.ensures

-- the command is one that was not refused
taken : (c : In_ok-decoded) {m : Command} → c.in_ok-decoded.field-0 ≡ m → c.decode-decoded.result.command ≡ Ok m
taken c e = c.in_ok-decoded.was ∙ ap Ok e

-- what is known of the command
known : (c : In_ok-decoded) {m : Command} → c.in_ok-decoded.field-0 ≡ m →
    let x = c.loop-h.invariant.sofar in
    let s = c.args.s.now in
    Said (header_of x.line) (known_of x (addressed s c.loop-h.at)) s c.loop-h.at c.loop-h.stage c.decode-decoded.result.next m
known c e = heard c.loop-h.invariant (met c) _ (taken c e)

pub loop-h-init : goal.loop-h-init
loop-h-init c = rw c.requires (starts _)

pub decode-decoded-requires : goal.decode-decoded-requires
decode-decoded-requires c = rw c.noted-noted.ensures (known-in-range c.loop-h.invariant _)

pub returns-in_err-decoded : goal.returns-in_err-decoded
returns-in_err-decoded c =
    let p = err_from_is_err_and c.from_residual.result c.from_residual.ensures.1 in
    rw (p.1, p.2) (on-refused c.loop-h.invariant (rw (c.noted-noted.ensures, c.addressed.ensures) at c.decode-decoded.ensures) _ c.in_err-decoded.was)

pub overflow_cast-result : goal.overflow_cast-result
overflow_cast-result c = let k = known (goal.at.overflow_cast-result c).In_ok-decoded c.in-End.is in record { fits = omega arith }

pub returns-then-decoded-s : goal.returns-then-decoded-s
returns-then-decoded-s c = on-more c.loop-h.invariant (met (goal.at.returns-then-decoded-s c).In_ok-decoded) (taken (goal.at.returns-then-decoded-s c).In_ok-decoded c.in-End.is) c.if-decoded-s.true

pub returns-in-End : goal.returns-in-End
returns-in-End c = on-end c.loop-h.invariant (met (goal.at.returns-in-End c).In_ok-decoded) (taken (goal.at.returns-in-End c).In_ok-decoded c.in-End.is) c.if-decoded-s.false

pub overflow_add-stage : goal.overflow_add-stage
overflow_add-stage c = let k = known (goal.at.overflow_add-stage c).In_ok-decoded c.in-Head.is in record { fits = omega arith }

pub loop-h-smaller-in-Head : goal.loop-h-smaller-in-Head
loop-h-smaller-in-Head c = let k = known (goal.at.loop-h-smaller-in-Head c).In_ok-decoded c.in-Head.is in omega arith

pub loop-h-preserved-in-Head : goal.loop-h-preserved-in-Head
loop-h-preserved-in-Head c = on-head c.loop-h.invariant (met (goal.at.loop-h-preserved-in-Head c).In_ok-decoded) (λ i. (c.type_inv.s i).fits) _ (taken (goal.at.loop-h-preserved-in-Head c).In_ok-decoded c.in-Head.is)

pub overflow_cast-index : goal.overflow_cast-index
overflow_cast-index c = let k = known (goal.at.overflow_cast-index c).In_ok-decoded c.in-Describe.is in record { fits = omega arith }

pub bounds-index-i : goal.bounds-index-i
bounds-index-i c = described-small c.loop-h.invariant (met (goal.at.bounds-index-i c).In_ok-decoded) _ (taken (goal.at.bounds-index-i c).In_ok-decoded c.in-Describe.is)

pub loop-h-smaller-in-Describe : goal.loop-h-smaller-in-Describe
loop-h-smaller-in-Describe c = let k = known (goal.at.loop-h-smaller-in-Describe c).In_ok-decoded c.in-Describe.is in omega arith

pub loop-h-preserved-in-Describe : goal.loop-h-preserved-in-Describe
loop-h-preserved-in-Describe c = on-describe c.loop-h.invariant (met (goal.at.loop-h-preserved-in-Describe c).In_ok-decoded) (λ i. (c.type_inv.s i).fits) _ (taken (goal.at.loop-h-preserved-in-Describe c).In_ok-decoded c.in-Describe.is)

pub overflow_cast-index-in-Rest : goal.overflow_cast-index-in-Rest
overflow_cast-index-in-Rest c = let k = known (goal.at.overflow_cast-index-in-Rest c).In_ok-decoded c.in-Rest.is in record { fits = omega arith }

pub bounds-index-i-in-Rest : goal.bounds-index-i-in-Rest
bounds-index-i-in-Rest c = rested-small c.loop-h.invariant (met (goal.at.bounds-index-i-in-Rest c).In_ok-decoded) _ (taken (goal.at.bounds-index-i-in-Rest c).In_ok-decoded c.in-Rest.is)

pub loop-h-smaller-in-Rest : goal.loop-h-smaller-in-Rest
loop-h-smaller-in-Rest c = let k = known (goal.at.loop-h-smaller-in-Rest c).In_ok-decoded c.in-Rest.is in omega arith

pub loop-h-preserved-in-Rest : goal.loop-h-preserved-in-Rest
loop-h-preserved-in-Rest c = on-rest c.loop-h.invariant (met (goal.at.loop-h-preserved-in-Rest c).In_ok-decoded) (λ i. (c.type_inv.s i).fits) _ (taken (goal.at.loop-h-preserved-in-Rest c).In_ok-decoded c.in-Rest.is)

pub overflow_cast-index-in-High : goal.overflow_cast-index-in-High
overflow_cast-index-in-High c = let k = known (goal.at.overflow_cast-index-in-High c).In_ok-decoded c.in-High.is in record { fits = omega arith }

pub bounds-index-i-in-High : goal.bounds-index-i-in-High
bounds-index-i-in-High c = widened_small c.loop-h.invariant (met (goal.at.bounds-index-i-in-High c).In_ok-decoded) _ (taken (goal.at.bounds-index-i-in-High c).In_ok-decoded c.in-High.is)

pub loop-h-smaller-in-High : goal.loop-h-smaller-in-High
loop-h-smaller-in-High c = let k = known (goal.at.loop-h-smaller-in-High c).In_ok-decoded c.in-High.is in omega arith

pub loop-h-preserved-in-High : goal.loop-h-preserved-in-High
loop-h-preserved-in-High c = on-high c.loop-h.invariant (met (goal.at.loop-h-preserved-in-High c).In_ok-decoded) (λ i. (c.type_inv.s i).fits) _ (taken (goal.at.loop-h-preserved-in-High c).In_ok-decoded c.in-High.is)

pub bounds-index-word : goal.bounds-index-word
bounds-index-word c = let k = known (goal.at.bounds-index-word c).In_ok-decoded c.in-Silence.is in omega arith

pub bounds-index-word-in-Silence : goal.bounds-index-word-in-Silence
bounds-index-word-in-Silence c = let k = known (goal.at.bounds-index-word-in-Silence c).In_ok-decoded c.in-Silence.is in omega arith

pub loop-h-smaller : goal.loop-h-smaller
loop-h-smaller c = let k = known (goal.at.loop-h-smaller c).In_ok-decoded c.in-Silence.is in omega arith

pub loop-h-preserved : goal.loop-h-preserved
loop-h-preserved c = on-silence c.loop-h.invariant (met (goal.at.loop-h-preserved c).In_ok-decoded) (λ i. (c.type_inv.s i).fits) _ _ (search rules) (taken (goal.at.loop-h-preserved c).In_ok-decoded c.in-Silence.is)
