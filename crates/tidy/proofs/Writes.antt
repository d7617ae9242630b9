-- Runs of stores, one after the other: what the tidy form leaves in a lent buffer.
-- Assumes nothing.
use mathlib.Core.Path.{◌≡◌, refl, ◌∙◌}
use mathlib.Core.List.{List, [], ◌∷◌, ◌++◌, append_assoc}
use Prim.Native.Nat.{ℕ, suc, ◌+◌, ◌<◌}
use native.Mathlib.Numerals.{add-one}
use native.Mathlib.Omega.{arith}
use lib.ListN.{length, set}
use lib.Seq.{sets}
use Rattle.sizes.specs.Sizes.{words_of, size_command, silence_command}
use Rattle.bigendian.specs.Number.{bytes}
use Rattle.bigendian.proofs.Numbers.{bytes_one}
use Rattle.lists.proofs.Stores.{sets-append}
use Rattle.gaps.specs.declared.Gap.TheVariants.{Parts, Tenths}
use Rattle.line.specs.Line.{Line}
use Rattle.rows.specs.declared.Header.{Header}
use Rattle.rows.specs.Rows.{budget, end}
use Rattle.rows.specs.Codes.{size_row, silence_row}
use Rattle.sheet.specs.Reading.{header_of}
use Rattle.tidyform.specs.Tidy.{written, tone_bytes, map_bytes, gap_bytes, head_bytes, tidy}
use Rattle.tidytones.proofs.Writes.{sets-bytes}

-- The commands that are written number by number, as the stores that write them.

pub word-stores : (out : List ℕ) (at word map : ℕ) → word < 256
    → sets out at (written silence_row (word ∷ map ∷ [])) ≡ sets (set (set out at 6) (at + 1) word) (at + 2) (bytes 4 map)
word-stores out at word map h =
    rw add-one (
    sets-bytes (set out at 6) (suc at) 1 word _ (at + 2) (omega arith)
    ∙ sets-bytes _ (at + 2) 4 map [] (at + silence_command) (omega arith)
    ∙ rw (bytes_one word h))

pub parts-stores : (out : List ℕ) (at g : ℕ) → sets out at (gap_bytes (Parts g)) ≡ sets (set out at 2) (at + 1) (bytes 2 g)
unfolding gap_bytes
parts-stores out at g = rw add-one (sets-bytes (set out at 2) (suc at) 2 g [] (at + 3) (omega arith))

pub tenths-stores : (out : List ℕ) (at d : ℕ) → d < 256 → sets out at (gap_bytes (Tenths d)) ≡ set (set out at 8) (at + 1) d
unfolding gap_bytes
tenths-stores out at d h = rw (add-one, bytes_one d h)

-- the first three commands, the third at a place after the gap's
pub head-stores : (out : List ℕ) (h : Header) (at : ℕ) → at ≡ size_command + length (gap_bytes h.gap)
    → sets out 0 (head_bytes h) ≡ sets (set (sets (sets (set out 0 1) 1 (bytes 2 h.size)) size_command (gap_bytes h.gap)) at 3) (at + 1) (bytes 8 h.budget)
unfolding head_bytes
head-stores out h at e = rw e (between (gap_bytes h.gap) h.size h.budget)
  where
    between : (gap : List ℕ) (n b : ℕ) → sets out 0 (written size_row (n ∷ []) ++ gap ++ written budget (b ∷ []))
        ≡ (let at = size_command + length gap in sets (set (sets (sets (set out 0 1) 1 (bytes 2 n)) size_command gap) at 3) (at + 1) (bytes 8 b))
    between gap n b =
        rw add-one (simp append_assoc (
        sets-bytes (set out 0 1) 1 2 n _ size_command refl
        ∙ sets-append _ size_command gap _
        ∙ sets-bytes _ (suc (size_command + length gap)) 8 b [] (size_command + length gap + 9) (omega arith)))

-- the first three commands, the tones, the words and the end
pub line-stores : (out : List ℕ) (l : Line) (h : Header) (tones words : List ℕ) → header_of l ≡ h → tone_bytes l.size l.entries ≡ tones
    → map_bytes (words_of l.size) l.maps ≡ words
    → sets out 0 (tidy l)
    ≡ (let head = head_bytes h in
    set (sets (sets (sets out 0 head) (length head) tones) (length head + length tones) words) (length head + length tones + length words) 7)
unfolding tidy
line-stores out l h tones words e f g = rw (f, g, ← e) (stores (head_bytes (header_of l)))
  where
    stores : (head : List ℕ) → sets out 0 (head ++ tones ++ words ++ written end [])
        ≡ set (sets (sets (sets out 0 head) (length head) tones) (length head + length tones) words) (length head + length tones + length words) 7
    stores head =
        let z : 0 + length head ≡ length head = omega arith in
        simp append_assoc (sets-append out 0 head _ ∙ rw z (sets-append _ (length head) tones _ ∙ sets-append _ _ words (7 ∷ [])))
