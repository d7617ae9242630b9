-- `tidylengths::tones_bytes` meets its contract. Between the turns the tones below `tone` are counted. Assumes nothing.
use native.Mathlib.Numerals.{add-one}
use native.Mathlib.Omega.{arith}
use Rattle.lists.proofs.Joined.{length_none, length-next}
use Rattle.tidylengths.specs.Copies.{copy_at}
use Rattle.tidylengths.proofs.tones_bytes.Goals as goal

pub loop-tone-init : goal.loop-tone-init
loop-tone-init c = (omega (arith, length_none (copy_at c.args.s.now c.args.tones.now)), omega arith)

pub tone_bytes-bytes-requires : goal.tone_bytes-bytes-requires
tone_bytes-bytes-requires c = c.requires.inside c.loop-tone.tone

pub loop-tone-preserved : goal.loop-tone-preserved
loop-tone-preserved c =
    let l = c.loop-tone in
    let a = c.args in
    let more = length-next (copy_at a.s.now a.tones.now) l.tone in
    let one = c.tone_bytes-bytes.ensures in
    rw add-one (omega (arith, more, l.invariant.0, one.0), omega (arith, one.1))
