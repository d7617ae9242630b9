-- `running::Running::exchange` meets its contract. Assumes nothing.
use mathlib.Core.Path.{◌∙◌, ap}
use Rattle.running.specs.declared.Running.{Running}
use Rattle.running.specs.Running.{taken}
use Rattle.running.proofs.Changes.{exchanges, both-followed}
use Rattle.running.proofs.Running.exchange.Goals as goal

pub returns : goal.returns
returns c =
    let f = c.args.f in
    let gave = c.give_up-self.ensures in
    let took = c.take.ensures in
    record {
      value = took.value ∙ ap (λ (r : Running). taken r f) gave.value;
      leads = exchanges gave.leads took.leads;
      ranks_follow = both-followed gave.ranks_follow took.ranks_follow;
    }
