-- `tidy::writer::put_header` meets its contract. Assumes nothing.
use mathlib.Core.Path.{◌≡◌, sym, ◌∙◌}
use Prim.Native.Nat.{◌+◌, ◌≤◌}
use native.Mathlib.Omega.{arith}
use lib.ListN.{length, length-set}
use Rattle.sizes.specs.Sizes.{size_command, budget_command}
use Rattle.bigendian.proofs.Numbers.{number_fits}
use Rattle.tidyform.specs.Tidy.{gap_bytes}
use Rattle.tidyform.proofs.Length.{length-gap-le, length-head}
use Rattle.tidy.proofs.Writes.{head-stores}
use Rattle.tidy.proofs.writer.put_header.Goals.{After-put_gap-at, After-put_number}
use Rattle.tidy.proofs.writer.put_header.Goals as goal

-- the three commands have room
room : (c : After-put_number) → (let a = c.args in size_command + length (gap_bytes a.header.gap) + budget_command ≤ length a.out.now)
room c = omega (arith, length-head c.args.header, c.requires)

-- the buffer keeps its length at each call
kept : (c : After-put_number) → length c.put_number.new.out ≡ length c.args.out.now
kept c = c.put_number.auto.out ∙ simp length-set

kept-gap : (c : After-put_gap-at) → length c.put_number.new.out ≡ length c.args.out.now → length c.put_gap-at.new.out ≡ length c.args.out.now
kept-gap c e = c.put_gap-at.auto.out ∙ e

pub bounds-out-0 : goal.bounds-out-0
bounds-out-0 c = omega (arith, length-head c.args.header, c.requires)

pub put_gap-at-requires : goal.put_gap-at-requires
put_gap-at-requires c =
    let p = (goal.at.put_gap-at-requires c).After-put_number in
    rw (kept p) (omega (arith, room p))

pub bounds-out-at : goal.bounds-out-at
bounds-out-at c =
    let p = goal.at.bounds-out-at c in
    rw (kept-gap p.After-put_gap-at (kept p.After-put_number)) (omega (arith, c.put_gap-at.ensures.place, room p.After-put_number))

pub overflow_add-at : goal.overflow_add-at
overflow_add-at c = omega (arith, c.put_gap-at.ensures.place, length-gap-le c.args.header.gap)

pub overflow_add-result : goal.overflow_add-result
overflow_add-result c = omega (arith, c.put_gap-at.ensures.place, length-gap-le c.args.header.gap)

pub returns : goal.returns
returns c =
    let p = goal.at.returns c in
    let a = c.args in
    let at = c.put_gap-at.ensures.place in
    let r = room p.After-put_number in
    record {
      place = omega (arith, at, length-head a.header);
      bytes = rw (
        c.put_number-2.ensures ∙ number_fits _ _ _ _ (simp (length-set, kept-gap p.After-put_gap-at (kept p.After-put_number)) (omega (arith, at, r))),
        c.put_gap-at.ensures.bytes,
        c.put_number.ensures ∙ number_fits _ _ _ _ (simp length-set (omega (arith, r))),
      )
          (sym (head-stores a.out.now a.header c.put_gap-at.result at));
    }
