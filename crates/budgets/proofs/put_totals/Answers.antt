-- `budgets::put_totals` meets its contract. Assumes nothing.
use mathlib.Core.Path.{sym, ap, ◌∙◌}
use Prim.Native.Nat.{◌+◌, ◌≤◌}
use native.Mathlib.Omega.{arith}
use lib.ListN.{length}
use lib.Seq.{sets, length-sets}
use Rattle.bigendian.specs.Number.{bytes}
use Rattle.bigendian.proofs.Numbers.{length-bytes, number_fits}
use Rattle.lists.proofs.Stores.{sets-append}
use Rattle.budgets.proofs.put_totals.Goals as goal

pub returns : goal.returns
returns c =
    let a = c.args in
    let out = a.out.now in
    let t = a.totals in
    let first = number_fits out a.at 4 t.bits (omega arith) in
    let room : a.at + 4 + 8 ≤ length (sets out a.at (bytes 4 t.bits)) = omega (arith, length-sets out a.at (bytes 4 t.bits)) in
    c.put_number-2.ensures
    ∙ rw (c.put_number.ensures ∙ first) (number_fits _ (a.at + 4) 8 t.power room)
    ∙ rw (ap (λ n. a.at + n) (length-bytes 4 t.bits)) at (sym (sets-append out a.at (bytes 4 t.bits) (bytes 8 t.power)))
