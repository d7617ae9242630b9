-- `moves::take_if_fits` meets its contract. Assumes nothing.
use mathlib.Core.Path.{◌≡◌, ap}
use Prim.Native.Nat.{◌/◌}
use native.Mathlib.Omega.{arith}
use Rattle.steps.specs.Runs.{take_if_fits}
use Rattle.ranks.specs.Ranks.{rank_base, no_step}
use Rattle.moves.specs.declared.Step.{Step}
use Rattle.moves.proofs.Named.{no-free, free-at, does-not-fit, fitting}
use Rattle.moves.proofs.take_if_fits.Goals as goal

pub returns-then-earliest-eq18446744073709551615 : goal.returns-then-earliest-eq18446744073709551615
unfolding take_if_fits no_step
returns-then-earliest-eq18446744073709551615 c = λ T t K. rw (no-free K c.if-earliest-eq18446744073709551615.true)

pub overflow_add-power : goal.overflow_add-power
overflow_add-power c =
    let z : c.step_at-f.result.size ≡ c.args.earliest / rank_base = ap (λ (s : Step). s.size) c.step_at-f.ensures in
    record { fits = omega (arith, z, c.requires) }

pub returns-then-budget-power : goal.returns-then-budget-power
unfolding no_step
returns-then-budget-power c = λ T t K. does-not-fit K (free-at K c.step_at-f.ensures c.if-earliest-eq18446744073709551615.false) c.if-budget-power.true

pub returns : goal.returns
unfolding no_step
returns c = λ T t K. let F = free-at K c.step_at-f.ensures c.if-earliest-eq18446744073709551615.false in (fitting K F c.if-budget-power.false, F)
