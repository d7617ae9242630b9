-- `bench::show` meets its contract. Assumes nothing.
use Rattle.bench.proofs.Sizes.{counted-size}
use Rattle.bench.proofs.show.Goals as goal

pub show_loading-requires : goal.show_loading-requires
show_loading-requires c = counted-size _ (λ i. (c.type_inv.sheet i).fits) c.in-Ok.ensures.answer
