-- `tidy::words_bytes` meets its contract. Between the turns the words before `map` are counted. Assumes nothing.
use native.Mathlib.Numerals.{add-one}
use native.Mathlib.Omega.{arith}
use Rattle.lists.proofs.Joined.{length_none, length-next}
use Rattle.tidyform.specs.Tidy.{word_bytes_at}
use Rattle.tidyform.proofs.Parts.{length-word, length-no-word}
use Rattle.tidy.proofs.words_bytes.Goals.{then-map-ne0, else-map-ne0}
use Rattle.tidy.proofs.words_bytes.Goals as goal

pub loop-map-init : goal.loop-map-init
loop-map-init c = (omega (arith, length_none (word_bytes_at c.args.maps.now)), omega arith)

pub loop-map-preserved : goal.loop-map-preserved
loop-map-preserved c =
    let word = c.loop-map.map-index in
    let more = length-next (word_bytes_at c.args.maps.now) word in
    rw add-one (elim c.if-map-ne0.branch [
      | then-map-ne0 w ↦ (let l = length-word word w.if-map-ne0.true in (omega arith, omega arith))
      | else-map-ne0 w ↦ (let l = length-no-word word w.if-map-ne0.false in (omega arith, omega arith))
    ])
