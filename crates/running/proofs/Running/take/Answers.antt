-- `running::Running::take` meets its contract. Assumes nothing.
use mathlib.Core.Path.{◌≡◌, refl}
use Prim.Native.Nat.{◌<◌}
use native.Mathlib.Numerals.{add-one}
use native.Mathlib.Omega.{arith}
use borrow.Author.Rules.{rules}
use lib.ListN.{length, get_or}
use Rattle.sizes.specs.Sizes.{most_tones}
use Rattle.running.proofs.Changes.{followed, took}
use Rattle.running.proofs.Running.take.Goals as goal

pub returns : goal.returns
returns c =
    let s = c.args in
    let P = c.requires in
    let n : length s.self.bits ≡ most_tones = search rules in
    let l : s.f.tone < most_tones = omega (arith, P.tone, P.in_range.count_high) in
    let more = add-one (get_or s.self.bits s.f.tone 0) in
    let stored = c.put.ensures in
    record {
      value = rw more refl;
      leads = rw more (took (omega arith));
      ranks_follow = followed _ _ _ l n stored.lengths stored.free stored.held;
    }
