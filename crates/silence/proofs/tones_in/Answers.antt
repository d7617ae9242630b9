-- `silence::tones_in` meets its contract. Assumes nothing.
use Rattle.silence.proofs.Maps.{ones-count}
use Rattle.silence.proofs.tones_in.Goals as goal

pub returns : goal.returns
returns c = ones-count c.args.map c.ranges.map.fits
