-- `budgets::put_line` meets its contract. Assumes nothing.
use Rattle.arrays.proofs.Indexed.{own-low}
use Rattle.budgets.proofs.Lines.{line-passable, line-passed}
use Rattle.budgets.proofs.put_line.Goals as goal

pub fill_arrays-requires-clause-indexed_low : goal.fill_arrays-requires-clause-indexed_low
fill_arrays-requires-clause-indexed_low c = own-low c.requires.indexed

pub adding_pass-requires : goal.adding_pass-requires
adding_pass-requires c =
    let p = c.requires in
    line-passable p.indexed _ (p.judged _ p.indexed.means) _ c.fill_arrays.ensures _ p.bytes_in_bounds

pub returns : goal.returns
returns c =
    let p = c.requires in
    line-passed p.indexed _ (p.judged _ p.indexed.means) _ c.fill_arrays.ensures c.adding_pass.ensures
