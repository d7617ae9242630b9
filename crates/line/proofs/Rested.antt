-- The rests that a tone takes: the test of refusal 15, and the range that it leaves.
-- Assumes nothing.
use mathlib.Core.Bool.{true}
use mathlib.Core.Path.{◌≡◌}
use Prim.Native.Nat.{ℕ}
use borrow.Author.Tests.{ltb-true, leb-true, lt-ltb, le-leb}
use lib.Dec.{ltb, leb}
use Rattle.lists.proofs.Tests.{both-pass}
use Rattle.line.specs.declared.Tone.{Tone}
use Rattle.line.specs.Tone.{bounds_of, cost, is_rest, RestInRange}

module _ (g : ℕ) (t : Tone) (rest : ℕ) where
  pub rest-taken : is_rest g t rest ≡ true → RestInRange g t rest
  rest-taken e =
      let p = both-pass (ltb rest (cost g t)) (leb rest (bounds_of t).mask) e in
      record { below_cost = ltb-true rest (cost g t) p.0; within_mask = leb-true rest (bounds_of t).mask p.1 }

  pub takes-rest : RestInRange g t rest → is_rest g t rest ≡ true
  takes-rest I = rw (lt-ltb rest (cost g t) I.below_cost, le-leb rest (bounds_of t).mask I.within_mask)
