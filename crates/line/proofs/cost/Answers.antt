-- `line::cost` meets its contract. Assumes nothing.
use mathlib.Core.Path.{sym, ap, ◌∙◌}
use Rattle.line.specs.Tone.{kind_cost}
use Rattle.line.proofs.Costs.{reading-granted}
use Rattle.line.proofs.cost.Goals as goal

pub whole_cost-requires : goal.whole_cost-requires
whole_cost-requires c = rw c.in-Pair.is at c.requires.kind

pub whole_cost-requires-in-Single : goal.whole_cost-requires-in-Single
whole_cost-requires-in-Single c = rw c.in-Single.is at c.requires.kind

pub cost_of-requires : goal.cost_of-requires
cost_of-requires c = (rw c.in-Read.is at c.requires.kind).usable

pub returns-in-Pair : goal.returns-in-Pair
unfolding kind_cost
returns-in-Pair c =
    let same = c.whole_cost.ensures ∙ sym (ap (kind_cost _) c.in-Pair.is) in
    record {
      meaning = same;
      range = rw same c.requires.cost;
    }

pub returns-in-Single : goal.returns-in-Single
unfolding kind_cost
returns-in-Single c =
    let same = c.whole_cost-in-Single.ensures ∙ sym (ap (kind_cost _) c.in-Single.is) in
    record {
      meaning = same;
      range = rw same c.requires.cost;
    }

pub returns-in-Read : goal.returns-in-Read
unfolding kind_cost
returns-in-Read c =
    let kind = c.in-Read.is in
    let pre = c.requires in
    let same = c.cost_of.ensures ∙ reading-granted _ _ (rw kind at pre.kind) (rw kind at pre.cost) ∙ sym (ap (kind_cost _) kind) in
    record {
      meaning = same;
      range = rw same pre.cost;
    }
