-- `tidytones::put_tones` meets its contract. Between the turns the tones below `tone` are written. Assumes nothing.
use mathlib.Core.Path.{◌≡◌}
use native.Mathlib.Omega.{arith}
use Rattle.lists.proofs.Joined.{written_none, written-room, written_next}
use Rattle.tidylengths.specs.Copies.{copy_at}
use Rattle.tidytones.proofs.put_tones.Goals as goal

pub loop-tone-init : goal.loop-tone-init
loop-tone-init c = let a = c.args in written_none (copy_at a.s.now a.tones.now) a.out.now a.at

pub put_tone-place-requires : goal.put_tone-place-requires
put_tone-place-requires c =
    let a = c.args in
    record {
      inside = c.requires.inside c.loop-tone.tone;
      bytes_in_bounds = written-room (copy_at a.s.now a.tones.now) a.out.now a.at c.loop-tone.invariant c.loop-tone-test.true c.requires.bytes_in_bounds;
    }

pub loop-tone-preserved : goal.loop-tone-preserved
loop-tone-preserved c =
    let a = c.args in
    let e = c.put_tone-place.ensures in
    written_next (copy_at a.s.now a.tones.now) a.out.now a.at c.loop-tone.invariant e.place e.bytes

pub returns : goal.returns
returns c =
    let e : c.loop-tone.tone ≡ c.args.size = omega arith in
    record {
      place = rw e at c.loop-tone.invariant.place_is;
      bytes = rw e at c.loop-tone.invariant.stores;
    }
