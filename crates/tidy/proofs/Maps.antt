-- The maps that are written are those of the tidy form of the line that the sheet's index stands for.
-- Assumes nothing.
use mathlib.Core.List.{List, append-nil}
use mathlib.Core.Path.{◌≡◌, refl, sym, ap, ◌∙◌}
use Prim.Native.Nat.{ℕ, ◌≤◌}
use native.Mathlib.Decide.{le_ind}
use native.Mathlib.Omega.{arith}
use lib.ListN.{get_or, get_or-eq_default}
use Rattle.sizes.specs.Sizes.{most_words, words_of}
use Rattle.lists.specs.Joined.{joined_below}
use Rattle.lists.proofs.Joined.{joined_same}
use Rattle.line.specs.Line.{Line}
use Rattle.sheet.specs.declared.Index.{Index}
use Rattle.sheet.specs.Index.{Indexes}
use Rattle.sheet.proofs.Sound.{Sound}
use Rattle.tidyform.specs.Tidy.{word_bytes, map_bytes}
use Rattle.tidyform.proofs.Parts.{no_word}

-- words past the line's are 0 and add nothing
no_more : (maps : List ℕ) (n m : ℕ) → n ≤ m → ((word : ℕ) → n ≤ word → get_or maps word 0 ≡ 0) → map_bytes m maps ≡ map_bytes n maps
unfolding joined_below
no_more maps n m h zeros =
    le_ind (λ (k : ℕ). map_bytes k maps ≡ map_bytes n maps) refl (λ k l e. rw (no_word k (zeros k l), append-nil (map_bytes k maps)) e) m h

pub maps-are : {s : List ℕ} {x : Index} (l : Line) → Sound l → Indexes s x l → map_bytes (words_of l.size) l.maps ≡ map_bytes most_words x.maps
maps-are l S X =
    sym (no_more l.maps (words_of l.size) most_words (omega (arith, S.in_range.size_high)) (λ word h. get_or-eq_default l.maps 0 (omega (arith, S.maps_sized))))
    ∙ joined_same _ _ most_words (λ word h. ap (word_bytes word) (X.map word))
