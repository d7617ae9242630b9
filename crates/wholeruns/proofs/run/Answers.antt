-- `wholeruns::run` meets its contract: it goes on from the ranks of its start. Assumes nothing.
use Rattle.line.proofs.Arrays.{stands-under}
use Rattle.ranks.specs.Ranks.{no_step}
use Rattle.wholeruns.proofs.Along.{none_yet}
use Rattle.wholeruns.proofs.run.Goals as goal

pub fill-requires : goal.fill-requires
unfolding no_step
fill-requires c =
    let R = c.requires in
    record { arrays_in_range = R.in_range; under = stands-under R.stands.table; free_past = none_yet _; held_past = none_yet _ }
