-- `starts::from_start` meets its contract. Between the turns the tones below the index are copied, with their totals. Assumes nothing.
use Prim.Native.Nat.{◌≤◌}
use native.Mathlib.Omega.{arith}
use borrow.Author.Rules.{rules}
use Rattle.std.proofs.lemmas.List.{length_push}
use Rattle.starts.proofs.Beside.{turn, ends}
use Rattle.starts.proofs.Copied.{none-copied, power-room, copied_more, copied-from, copied-stands}
use Rattle.starts.proofs.from_start.Goals as goal

pub loop-tone-init : goal.loop-tone-init
loop-tone-init c = none-copied

pub power-requires : goal.power-requires
power-requires c =
    let t = turn c.args.start.now c.args.tones.now _ _ c.next.new.self _ _ (cc) (cc) (cc) c.loop-tone.yielded_by c.next.ensures.steps _ c.in-Some.is in
    let ready = c.requires.powers_in_range in
    rw (t.bits_are, t.steps_are) (record { cost_bound = ready.cost_high _ (omega (arith, t.inside, t.tone_is)); bits_bound = ready.shift_high _ t.inside })

pub overflow_add-totals : goal.overflow_add-totals
overflow_add-totals c =
    let t = turn c.args.start.now c.args.tones.now _ _ c.next.new.self _ _ (cc) (cc) (cc) c.loop-tone.yielded_by c.next.ensures.steps _ c.in-Some.is in
    let p = c.requires in
    let power = rw (t.bits_are, t.steps_are) at c.power.ensures in
    omega (arith, power, c.loop-tone.invariant.sum_power, power-room p.powers_in_range _ t.inside p.start_len_bound)

pub overflow_add-totals-in-loop-tone : goal.overflow_add-totals-in-loop-tone
overflow_add-totals-in-loop-tone c =
    let t = turn c.args.start.now c.args.tones.now _ _ c.next.new.self _ _ (cc) (cc) (cc) c.loop-tone.yielded_by c.next.ensures.steps _ c.in-Some.is in
    omega (arith, c.loop-tone.invariant.small, c.requires.start_len_bound, t.inside)

pub loop-tone-preserved : goal.loop-tone-preserved
loop-tone-preserved c =
    let t = turn c.args.start.now c.args.tones.now _ _ c.next.new.self _ _ (cc) (cc) (cc) c.loop-tone.yielded_by c.next.ensures.steps _ c.in-Some.is in
    let power = rw (t.bits_are, t.steps_are) at c.power.ensures in
    let small : c.in-Some.bits.now ≤ 255 = search rules in
    rw (length_push c.loop-tone.yielded (c.in-Some.tone, (c.in-Some.bits, c.in-Some.steps)), t.tone_is)
    (copied_more c.loop-tone.invariant _ _ t.inside (omega (arith, t.inside, c.requires.start_len_bound)) t.bits_are small power)

pub returns : goal.returns
returns c =
    let whole = ends c.args.start.now c.args.tones.now _ _ c.next.new.self _ _ (cc) (cc) (cc) c.loop-tone.yielded_by c.next.ensures.steps c.requires.tones_enough c.in-None.is in
    record { copied = copied-from c.loop-tone.invariant whole; stands = copied-stands c.loop-tone.invariant whole }
