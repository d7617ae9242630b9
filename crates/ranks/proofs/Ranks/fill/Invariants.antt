-- `ranks::Ranks::fill` meets its contract: between its turns the ranks of the tones passed are stored. Assumes nothing.
use lib.ListN.{length}
use Rattle.ranks.specs.Ranks.{free_rank_at, held_rank_at}
use Rattle.ranks.proofs.Kept.{Stored}
use Rattle.ranks.proofs.Ranks.fill.Given as goal

abbrev pub invariant-loop-tone : goal.invariant-loop-tone
invariant-loop-tone l = record {
  free : Stored (length l.tones) l.tone (free_rank_at l.tones l.bits) l.self.free;
  held : Stored (length l.tones) l.tone (held_rank_at l.tones l.bits) l.self.held;
}
