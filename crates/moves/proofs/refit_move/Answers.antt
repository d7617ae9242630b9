-- `moves::refit_move` meets its contract. Assumes nothing.
use mathlib.Core.Path.{refl}
use Rattle.moves.proofs.Named.{adds, held_at, only-takes, exchanges, gives_up, takes}
use Rattle.moves.proofs.refit_move.Goals as goal

pub returns-then-latest-eq0 : goal.returns-then-latest-eq0
returns-then-latest-eq0 c = λ T t K. rw (only-takes K c.args.budget c.if-latest-eq0.true) (c.take_if_fits.ensures T t (adds K))

pub returns-then-earliest-latest : goal.returns-then-earliest-latest
returns-then-earliest-latest c =
    λ T t K.
    let H = held_at K c.step_at.ensures c.if-latest-eq0.false in
    exchanges K H c.args.budget c.step_at-then-earliest-latest.ensures c.if-earliest-latest.true

pub returns-then-budget-power : goal.returns-then-budget-power
returns-then-budget-power c =
    λ T t K.
    let H = held_at K c.step_at-then-budget-power.ensures c.if-latest-eq0.false in
    (gives_up K H c.if-earliest-latest.false c.if-budget-power.true, H)

pub returns : goal.returns
returns c =
    λ T t K.
    let H = held_at K refl c.if-latest-eq0.false in
    rw (takes K H c.if-earliest-latest.false c.if-budget-power.false) (c.take_if_fits-2.ensures T t (adds K))
