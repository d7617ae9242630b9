-- `arrays::read_tones` meets its contract. Assumes nothing.
use Rattle.std.proofs.lemmas.Result.{err_from_is_err_and}
use Rattle.sheet.proofs.Uses.{read-line, refused-is}
use Rattle.arrays.proofs.Uses.{tones-held, tones-refused}
use Rattle.arrays.proofs.Indexed.{own-low}
use Rattle.arrays.proofs.read_tones.Goals as goal

pub fill_arrays-requires : goal.fill_arrays-requires
fill_arrays-requires c = record { indexed_low = own-low (read-line c.in_ok-header.ensures).index; blank = c.requires }

pub returns-in_err-header : goal.returns-in_err-header
returns-in_err-header c =
    let p = err_from_is_err_and c.from_residual.result c.from_residual.ensures.1 in
    rw (p.1, p.2) (tones-refused c.args.tones.now (refused-is c.in_err-header.ensures))

pub returns : goal.returns
returns c = tones-held _ _ (read-line c.in_ok-header.ensures) c.fill_arrays.ensures
