-- `search::least` meets its contract: between its turns it knows the least of the ranks passed, eight for each turn. Assumes nothing.
use Prim.Native.Nat.{◌+◌}
use native.Mathlib.Omega.{arith}
use Rattle.ranks.specs.Ranks.{no_step}
use Rattle.search.proofs.Parts.{Part, none_yet, eight-more, part-least}
use Rattle.search.proofs.least.Goals.{After-min-least}
use Rattle.search.proofs.least.Goals as goal

-- the least of the ranks after one more turn
more : (c : After-min-least) → Part c.args.ranks.now 0 (c.loop-i.i + 8) c.min-least.result
more c =
    rw (
      c.min-least.ensures,
      c.min-in-loop-i-2.ensures,
      c.min-in-loop-i.ensures,
      c.min.ensures,
      c.min-four.ensures,
      c.min-three.ensures,
      c.min-two.ensures,
      c.min-one.ensures,
    ) (eight-more c.loop-i.invariant.part)

pub loop-i-init : goal.loop-i-init
unfolding no_step
loop-i-init c = record { turns = 0; eights = omega arith; within = omega arith; part = none_yet }

pub loop-i-preserved : goal.loop-i-preserved
loop-i-preserved c = record {
  turns = c.loop-i.invariant.turns + 1;
  eights = omega arith;
  within = omega arith;
  part = more (goal.at.loop-i-preserved c).After-min-least;
}

pub returns : goal.returns
returns c = part-least c.loop-i.invariant.part (omega arith) c.loop-i.invariant.within c.requires.none_from

pub returns-2 : goal.returns-2
returns-2 c = part-least (more (goal.at.returns-2 c).After-min-least) (omega arith) (omega arith) c.requires.none_from
