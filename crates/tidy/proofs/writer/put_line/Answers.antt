-- `tidy::writer::put_line` meets its contract. Assumes nothing.
use mathlib.Core.Path.{◌≡◌, ◌∙◌}
use Prim.Native.Nat.{◌+◌, ◌≤◌}
use native.Mathlib.Omega.{arith}
use lib.ListN.{length}
use Rattle.sizes.specs.Sizes.{most_words, end_command}
use Rattle.sheet.proofs.Sound.{Bytes}
use Rattle.sheet.proofs.Uses.{size_high}
use Rattle.tidyform.specs.Tidy.{head_bytes, map_bytes}
use Rattle.tidylengths.specs.Copies.{copies}
use Rattle.tidy.proofs.Index.{tones-inside, tidy-bytes, tidy-stores}
use Rattle.tidy.proofs.writer.put_line.Goals.{Start, After-put_tones-tones_end}
use Rattle.tidy.proofs.writer.put_line.Goals as goal

-- the tidy form has room
room : (c : Start) → Bytes c.args.s.now → (let a = c.args in
    length (head_bytes a.header) + length (copies a.header.size a.s.now a.index.now.tones)
    + length (map_bytes most_words a.index.now.maps) + end_command ≤ length a.out.now)
room c b =
    let x = c.requires.indexed in
    omega (arith, tidy-bytes x b x.line x.means, c.requires.form_in_bounds x.line x.means)

-- the place after the tones
tones-at : (c : After-put_tones-tones_end) → (let a = c.args in
    c.put_tones-tones_end.result ≡ length (head_bytes a.header) + length (copies a.header.size a.s.now a.index.now.tones))
tones-at c = omega (arith, c.put_tones-tones_end.ensures.place, c.put_header-header_end.ensures.place)

-- the buffer keeps its length at the first two calls
kept : (c : After-put_tones-tones_end) → length c.put_tones-tones_end.new.out ≡ length c.args.out.now
kept c = c.put_tones-tones_end.auto.out ∙ c.put_header-header_end.auto.out

pub put_header-header_end-requires : goal.put_header-header_end-requires
put_header-header_end-requires c = omega (arith, room (goal.at.put_header-header_end-requires c).Start (λ i. (c.type_inv.s i).fits))

pub put_tones-tones_end-requires : goal.put_tones-tones_end-requires
put_tones-tones_end-requires c =
    let b : Bytes c.args.s.now = λ i. (c.type_inv.s i).fits in
    let x = c.requires.indexed in
    record {
      size_le_most_tones = size_high x b;
      inside = tones-inside x;
      bytes_in_bounds = rw c.put_header-header_end.auto.out (omega (arith, c.put_header-header_end.ensures.place, room (goal.at.put_tones-tones_end-requires c).Start b));
    }

pub put_words-words_end-requires : goal.put_words-words_end-requires
put_words-words_end-requires c =
    let p = goal.at.put_words-words_end-requires c in
    rw (kept p.After-put_tones-tones_end) (omega (arith, tones-at p.After-put_tones-tones_end, room p.Start (λ i. (c.type_inv.s i).fits)))

pub bounds-out-words_end : goal.bounds-out-words_end
bounds-out-words_end c =
    let p = goal.at.bounds-out-words_end c in
    let t = p.After-put_tones-tones_end in
    rw (c.put_words-words_end.auto.out ∙ kept t) (omega (arith, c.put_words-words_end.ensures.place, tones-at t, room p.Start (λ i. (c.type_inv.s i).fits)))

pub returns : goal.returns
returns c =
    let h = c.put_header-header_end.ensures in
    let t = c.put_tones-tones_end.ensures in
    let w = c.put_words-words_end.ensures in
    λ l e. rw (w.place, w.bytes, t.place, t.bytes, h.place, h.bytes)
    (tidy-stores c.requires.indexed (λ i. (c.type_inv.s i).fits) l e c.args.out.now)
