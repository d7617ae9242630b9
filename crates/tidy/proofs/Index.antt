-- What the index of an accepted sheet says of the tidy form: how long it is, and the stores that write it.
-- Assumes nothing.
use mathlib.Core.List.{List}
use mathlib.Core.Path.{◌≡◌, sym, ap, ◌∙◌}
use Prim.Native.Nat.{ℕ, ◌+◌}
use native.Mathlib.Omega.{arith}
use lib.ListN.{length, set}
use lib.Seq.{sets}
use Rattle.sizes.specs.Sizes.{most_words, words_of, end_command}
use Rattle.line.specs.Line.{Line}
use Rattle.rows.specs.declared.Header.{Header}
use Rattle.sheet.specs.Reading.{accepted, header_of, said}
use Rattle.sheet.specs.declared.Index.{Index}
use Rattle.sheet.specs.Index.{noted_of, Indexed}
use Rattle.sheet.proofs.Sound.{Bytes}
use Rattle.sheet.proofs.Uses.{size_is, line-sound, line-in-range}
use Rattle.tidyform.specs.Tidy.{tone_bytes, map_bytes, head_bytes, tidy}
use Rattle.tidyform.proofs.Length.{length-tidy}
use Rattle.tidylengths.specs.Copies.{copies, AllInside}
use Rattle.tidylengths.proofs.Copies.{noted-inside, copies-are}
use Rattle.tidy.proofs.Maps.{maps-are}
use Rattle.tidy.proofs.Writes.{line-stores}

module _ {s : List ℕ} {x : Index} {h : Header} (I : Indexed s h x) where
  pub tones-inside : (i : ℕ) → AllInside s (noted_of x i)
  tones-inside = noted-inside I.indexes

  module _ (b : Bytes s) where
    tones-are : tone_bytes I.line.size I.line.entries ≡ copies h.size s x.tones
    tones-are = copies-are s b I.indexes (line-in-range I b) I.line.size (omega arith) ∙ ap (λ (n : ℕ). copies n s x.tones) (size_is I)

    words_are : map_bytes (words_of I.line.size) I.line.maps ≡ map_bytes most_words x.maps
    words_are = maps-are I.line (line-sound I b) I.indexes

    -- for the line that the sheet means
    module _ (l : Line) (e : said s ≡ accepted l) where
      is-line : l ≡ I.line
      is-line = cc I.means

      pub tidy-bytes : length (tidy l) ≡ length (head_bytes h) + length (copies h.size s x.tones) + length (map_bytes most_words x.maps) + end_command
      tidy-bytes =
          let head : length (head_bytes (header_of I.line)) ≡ length (head_bytes h) = ap (λ (k : Header). length (head_bytes k)) I.header_is in
          rw is-line (omega (arith, length-tidy I.line, head, ap length tones-are, ap length words_are))

      pub tidy-stores : (out : List ℕ)
          → (let head = head_bytes h in
          let tones = copies h.size s x.tones in
          let words = map_bytes most_words x.maps in
          set (sets (sets (sets out 0 head) (length head) tones) (length head + length tones) words) (length head + length tones + length words) 7)
          ≡ sets out 0 (tidy l)
      tidy-stores out = rw is-line (sym (line-stores out I.line h _ _ I.header_is tones-are words_are))
