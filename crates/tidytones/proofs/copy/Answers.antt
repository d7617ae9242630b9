-- `tidytones::copy` meets its contract. Between the turns the first `i` bytes are copied. Assumes nothing.
use mathlib.Core.Path.{◌≡◌, refl, sym, ap, ◌∙◌}
use native.Mathlib.Nat.{add-zero, zero-add}
use native.Mathlib.Omega.{arith}
use lib.ListN.{length}
use lib.Seq.{sets, take-length}
use Rattle.lists.proofs.Joined.{written_none, written_next}
use Rattle.tidylengths.specs.Copies.{byte_from, part}
use Rattle.tidytones.proofs.Writes.{part-lent}
use Rattle.tidytones.proofs.copy.Goals as goal

pub loop-i-init : goal.loop-i-init
loop-i-init c = let a = c.args in rw add-zero (written_none (byte_from a.bytes.now 0) a.out.now a.at)

pub loop-i-preserved : goal.loop-i-preserved
loop-i-preserved c = let a = c.args in written_next (byte_from a.bytes.now 0) a.out.now a.at c.loop-i.invariant (omega arith) (rw zero-add refl)

pub returns : goal.returns
returns c =
    let a = c.args in
    let bytes = a.bytes.now in
    let e : c.loop-i.i ≡ length bytes = omega arith in
    let all : part bytes 0 (length bytes) ≡ bytes = sym (part-lent bytes 0 (length bytes) (omega arith)) ∙ take-length bytes in
    (rw e at c.loop-i.invariant.stores) ∙ ap (sets a.out.now a.at) all
