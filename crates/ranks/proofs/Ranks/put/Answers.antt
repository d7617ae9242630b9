-- `ranks::Ranks::put` meets its contract. Assumes nothing.
use native.Mathlib.Nat.{le_trans, mul-le-mul_left}
use borrow.Author.Rules.{rules}
use Rattle.ranks.proofs.Ranks.put.Goals as goal

pub held_rank-requires : goal.held_rank-requires
held_rank-requires c =
    let p = c.requires in
    let under = p.bits_le_limit in
    record {
      tone_lt_most_tones = p.tone_lt_most_tones;
      cost_bound = p.cost_bound;
      bits_bound = le_trans (mul-le-mul_left c.args.steps.doublings under) p.limit_bound;
      steps_rise = λ h. p.steps_rise (le_trans h under);
    }

pub returns : goal.returns
returns c = record {
  free = rw c.free_rank.ensures;
  held = rw c.held_rank.ensures;
  lengths = search rules;
}
