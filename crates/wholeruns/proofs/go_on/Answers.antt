-- `wholeruns::go_on` meets its contract. Between the steps what is left of the run is the rest of the whole one. Assumes nothing.
use native.Mathlib.Omega.{arith}
use Rattle.wholeruns.proofs.Along.{along-full, along-finished, along-moved}
use Rattle.wholeruns.proofs.go_on.Goals as goal

pub loop-moves-preserved : goal.loop-moves-preserved
loop-moves-preserved c =
    let ran = c.step-now in
    along-moved c.loop-moves.invariant ran.ensures.answer c.loop-moves-test.true c.in_default.not-Finished {new_free = ran.new.ranks.free} {new_held = ran.new.ranks.held} ran.ensures.ranks

pub returns-in-Finished : goal.returns-in-Finished
returns-in-Finished c =
    let did = c.step-now.ensures in
    record {
      run = along-finished c.loop-moves.invariant did.answer c.loop-moves-test.true c.in-Finished.is;
      ranks = did.ranks;
    }

pub returns : goal.returns
returns c = let G = c.loop-moves.invariant in record {
  run = along-full G (omega arith);
  ranks = G.ranks;
}
