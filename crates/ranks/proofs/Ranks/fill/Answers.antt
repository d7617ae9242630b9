-- `ranks::Ranks::fill` meets its contract: between its turns the ranks of the tones passed are stored. Assumes nothing.
use Prim.Native.Nat.{◌<◌}
use native.Mathlib.Omega.{arith}
use lib.ListN.{length}
use Rattle.ranks.proofs.Kept.{stored-none, stored_more, stored-all}
use Rattle.ranks.proofs.Ranks.fill.Goals as goal

pub loop-tone-init : goal.loop-tone-init
loop-tone-init c = record { free = stored-none c.requires.free_past; held = stored-none c.requires.held_past }

pub put-requires : goal.put-requires
put-requires c =
    let i = c.loop-tone.tone in
    let p = c.requires.arrays_in_range in
    let l : i < length c.args.tones.now = omega arith in
    record {
      tone_lt_most_tones = omega (arith, p.count_high);
      cost_bound = p.cost_high i l;
      limit_bound = p.shift_high i l;
      steps_rise = p.steps_rise i l;
      bits_le_limit = c.requires.under.under i l;
    }

pub loop-tone-preserved : goal.loop-tone-preserved
loop-tone-preserved c =
    let e = c.put.ensures in
    let v = c.loop-tone.invariant in
    rw (e.free, e.held)
    record { free = stored_more v.free (omega arith) (omega (arith, e.lengths)); held = stored_more v.held (omega arith) (omega (arith, e.lengths)) }

pub returns : goal.returns
returns c =
    let v = c.loop-tone.invariant in
    record { free_ranks = stored-all v.free (omega arith); held_ranks = stored-all v.held (omega arith) }
