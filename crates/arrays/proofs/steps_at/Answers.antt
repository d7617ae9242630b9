-- `arrays::steps_at` meets its contract. Assumes nothing.
use Rattle.places.proofs.Entries.{entry-there}
use Rattle.arrays.proofs.steps_at.Goals as goal

pub steps_of-requires : goal.steps_of-requires
steps_of-requires c = rw c.tone_at-tone.ensures (c.requires c.if-noted-lt1.false)

pub returns : goal.returns
returns c =
    let n = c.args.noted in
    simp (c.if-silenced.false, entry-there c.args.s.now n.rest n.high n.own c.if-noted-lt1.false, c.steps_of.ensures, c.tone_at-tone.ensures, c.rest_at-rest.ensures)
