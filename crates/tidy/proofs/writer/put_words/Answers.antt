-- `tidy::writer::put_words` meets its contract. Between the turns the words before `word` are written. Assumes nothing.
use Rattle.lists.proofs.Joined.{written_none, written-room, written_next}
use Rattle.tidyform.specs.Tidy.{word_bytes_at}
use Rattle.tidy.proofs.writer.put_words.Goals as goal

pub loop-word-init : goal.loop-word-init
loop-word-init c = let a = c.args in written_none (word_bytes_at a.maps.now) a.out.now a.at

pub put_word-place-requires : goal.put_word-place-requires
put_word-place-requires c =
    let a = c.args in
    written-room (word_bytes_at a.maps.now) a.out.now a.at c.loop-word.invariant c.loop-word-test.true c.requires

pub loop-word-preserved : goal.loop-word-preserved
loop-word-preserved c =
    let a = c.args in
    let e = c.put_word-place.ensures in
    written_next (word_bytes_at a.maps.now) a.out.now a.at c.loop-word.invariant e.place e.bytes
