-- `tidy::writer::put_word` meets its contract. Assumes nothing.
use mathlib.Core.Path.{refl, sym, ◌∙◌}
use Prim.Native.Nat.{◌+◌, ◌≤◌}
use native.Mathlib.Omega.{arith}
use lib.ListN.{length, length-set}
use Rattle.sizes.specs.Sizes.{silence_command}
use Rattle.bigendian.proofs.Numbers.{number_fits}
use Rattle.tidyform.proofs.Parts.{no_word, some_word, length-word}
use Rattle.tidy.proofs.Writes.{word-stores}
use Rattle.tidy.proofs.writer.put_word.Goals.{Else-map-eq0}
use Rattle.tidy.proofs.writer.put_word.Goals as goal

-- the command's six bytes have room
room : (c : Else-map-eq0) → c.args.at + silence_command ≤ length c.args.out.now
room c = omega (arith, length-word c.args.word c.if-map-eq0.false)

pub returns-then-map-eq0 : goal.returns-then-map-eq0
returns-then-map-eq0 c = rw (no_word c.args.word c.if-map-eq0.true) record { place = omega arith; bytes = refl }

pub bounds-out-at : goal.bounds-out-at
bounds-out-at c = omega (arith, room (goal.at.bounds-out-at c).Else-map-eq0)

pub bounds-out-at-2 : goal.bounds-out-at-2
bounds-out-at-2 c = simp length-set (omega (arith, room (goal.at.bounds-out-at-2 c).Else-map-eq0))

pub returns : goal.returns
returns c =
    let a = c.args in
    let some = c.if-map-eq0.false in
    record {
      place = omega (arith, length-word a.word some);
      bytes = rw (c.put_number.ensures ∙ number_fits _ _ _ _ (simp length-set (omega (arith, room (goal.at.returns c).Else-map-eq0))), some_word a.word some)
          (sym (word-stores a.out.now a.at a.word a.map (omega arith)));
    }
