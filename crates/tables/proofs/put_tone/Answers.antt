-- `tables::put_tone` meets its contract. Assumes nothing.
use mathlib.Core.Path.{◌∙◌}
use Prim.Native.Nat.{◌+◌, ◌≤◌}
use native.Mathlib.Numerals.{add-one}
use native.Mathlib.Omega.{arith}
use lib.ListN.{length, length-set}
use Rattle.bigendian.proofs.Numbers.{number_fits}
use Rattle.tables.proofs.put_tone.Goals as goal

pub returns : goal.returns
returns c =
    let a = c.args in
    let room : a.at + 1 + 8 ≤ length a.out.now = omega arith in
    rw (c.put_number.ensures ∙ number_fits _ _ _ _ (simp length-set room), add-one)
