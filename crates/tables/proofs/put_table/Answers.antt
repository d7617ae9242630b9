-- `tables::put_table` meets its contract. Between the turns the entries of the tones below the index are written. Assumes nothing.
use mathlib.Core.Path.{◌≡◌}
use native.Mathlib.Omega.{arith}
use lib.ListN.{length}
use Rattle.lists.proofs.Joined.{written_none, written_next}
use Rattle.tables.specs.Tables.{tone_entry}
use Rattle.tables.proofs.Entries.{length-entry, plain, plain-table-bytes}
use Rattle.tables.proofs.put_table.Goals as goal

pub loop-tone-init : goal.loop-tone-init
loop-tone-init c =
    let a = c.args in
    written_none (tone_entry (plain a.tones.now) a.bits.now) a.out.now 0

pub power-requires : goal.power-requires
power-requires c =
    let ready = c.requires.powers_in_range in
    record {
      cost_bound = ready.cost_high _ (omega arith);
      bits_bound = ready.shift_high _ (omega arith);
    }

pub put_tone-requires : goal.put_tone-requires
put_tone-requires c = omega (arith, c.loop-tone.invariant.same_length)

pub loop-tone-preserved : goal.loop-tone-preserved
loop-tone-preserved c =
    let s = c.args in
    let T = plain s.tones.now in
    let t = s.bits.now in
    let stored = rw c.power.ensures at c.put_tone.ensures in
    written_next (tone_entry T t) s.out.now 0 c.loop-tone.invariant (omega (arith, length-entry T t c.loop-tone.tone)) stored

pub returns : goal.returns
returns c = record {
  bytes =
      let e : c.loop-tone.tone ≡ length c.args.tones.now = omega arith in
      rw e at c.loop-tone.invariant.stores;
  table = λ T t S.
      let e : c.loop-tone.tone ≡ T.count = omega (arith, S.describes.same_count) in
      rw (e, plain-table-bytes S) at c.loop-tone.invariant.stores;
}
