-- `tidytones::put_tone` meets its contract. Assumes nothing.
use mathlib.Core.Path.{refl, sym, ◌∙◌}
use Prim.Native.Nat.{◌+◌, ◌≤◌}
use native.Mathlib.Omega.{arith}
use lib.ListN.{length}
use Rattle.tidylengths.specs.Copies.{AllInside, tone_copy}
use Rattle.tidylengths.proofs.Commands.{nothing-kept, kept-inside, length-kept}
use Rattle.tidytones.proofs.Writes.{entry-stores}
use Rattle.tidytones.proofs.put_tone.Goals.{After-kept-kept}
use Rattle.tidytones.proofs.put_tone.Goals as goal

-- the commands that are kept are all there
inside : (c : After-kept-kept) → AllInside c.args.s.now c.kept-kept.result
inside c = kept-inside c.args.s.now c.args.noted c.kept-kept.ensures c.requires.inside

-- and have room
room : (c : After-kept-kept) → (let a = c.args in
    let k = c.kept-kept.result in
    a.at + length (tone_copy a.s.now a.tone k.own) + length (tone_copy a.s.now a.tone k.rest) + length (tone_copy a.s.now a.tone k.high)
    ≤ length a.out.now)
room c = let a = c.args in omega (arith, c.requires.bytes_in_bounds, length-kept a.s.now a.tone a.noted c.kept-kept.ensures)

pub returns-then-noted-lt1-3 : goal.returns-then-noted-lt1-3
returns-then-noted-lt1-3 c =
    let a = c.args in
    rw (nothing-kept a.s.now a.tone a.noted.own a.noted.rest a.noted.high (omega arith) (omega arith) (omega arith)) (record { place = omega arith; bytes = refl })

pub put_any-own_end-requires : goal.put_any-own_end-requires
put_any-own_end-requires c =
    let p = (goal.at.put_any-own_end-requires c).After-kept-kept in
    record { inside = (inside p).own; bytes_in_bounds = omega (arith, room p) }

pub put_any-rest_end-requires : goal.put_any-rest_end-requires
put_any-rest_end-requires c =
    let p = (goal.at.put_any-rest_end-requires c).After-kept-kept in
    record { inside = (inside p).rest; bytes_in_bounds = omega (arith, room p, c.put_any-own_end.ensures.place) }

pub put_any-requires : goal.put_any-requires
put_any-requires c =
    let p = (goal.at.put_any-requires c).After-kept-kept in
    record {
      inside = (inside p).high;
      bytes_in_bounds = omega (arith, room p, c.put_any-own_end.ensures.place, c.put_any-rest_end.ensures.place);
    }

pub returns : goal.returns
returns c =
    let a = c.args in
    let own = c.put_any-own_end.ensures in
    let rest = c.put_any-rest_end.ensures in
    let high = c.put_any.ensures in
    record {
      place = omega (arith, own.place, rest.place, high.place, length-kept a.s.now a.tone a.noted c.kept-kept.ensures);
      bytes = high.bytes ∙ rw (rest.place, rest.bytes, own.place, own.bytes) (sym (entry-stores a.s.now a.tone a.noted c.kept-kept.ensures a.out.now a.at));
    }
