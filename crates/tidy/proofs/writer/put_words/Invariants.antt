-- `tidy::writer::put_words` meets its contract. Between the turns the words before `word` are written. Assumes nothing.
use Rattle.lists.proofs.Joined.{Written}
use Rattle.tidyform.specs.Tidy.{word_bytes_at}
use Rattle.tidy.proofs.writer.put_words.Given as goal

abbrev pub invariant-loop-word : goal.invariant-loop-word
invariant-loop-word l = Written (word_bytes_at l.maps) l.initial.out l.at l.word l.out l.place
