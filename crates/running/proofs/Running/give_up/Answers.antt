-- `running::Running::give_up` meets its contract. Assumes nothing.
use mathlib.Core.Path.{◌≡◌, refl}
use Prim.Native.Nat.{◌<◌}
use native.Mathlib.Omega.{arith}
use borrow.Author.Rules.{rules}
use lib.ListN.{length}
use Rattle.sizes.specs.Sizes.{most_tones}
use Rattle.running.proofs.Changes.{followed, gave-up}
use Rattle.running.proofs.Running.give_up.Goals as goal

pub returns : goal.returns
returns c =
    let s = c.args in
    let P = c.requires in
    let n : length s.self.bits ≡ most_tones = search rules in
    let l : s.h.tone < most_tones = omega (arith, P.tone, P.in_range.count_high) in
    let stored = c.put.ensures in
    record {
      value = refl;
      leads = gave-up (omega arith);
      ranks_follow = followed _ _ _ l n stored.lengths stored.free stored.held;
    }
