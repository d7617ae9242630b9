-- `samplebuffers::same` meets its contract: lists of one length are equal just where their elements are. Assumes nothing.
use Rattle.std.proofs.Common.{get_or, sym, ap, ◌∙◌, arith}
use Rattle.std.proofs.lemmas.Grind.{same_number_lists}
use Rattle.std.specs.Cmp.Lexicographic.{same_text, other_text}
use Rattle.samplebuffers.proofs.same.Goals as goal

pub returns : goal.returns
returns c = record {
  yes = λ e i l. ap (λ xs. get_or xs i 0) (same_text _ _ (sym e ∙ c.eq.ensures));
  no = λ e s. other_text c.args.a.now c.args.b.now (sym e ∙ c.eq.ensures) (same_number_lists _ _ (omega arith) (λ k l. s k (omega arith)));
}
