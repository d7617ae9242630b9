-- The buffers of the test program: how long they are, what they are filled with, and when two hold the same bytes. Assumes nothing.
use Rattle.std.specs.Prelude.{List, ◌≡◌, ℕ, ◌+◌, ◌<◌, get_or}
use Rattle.sizes.specs.Sizes.{longest_sheet}

-- the bytes of a buffer for a sheet or a table, above the longest sheet's, and of the one for the text
abbrev pub room : ℕ
room = longest_sheet + 100

abbrev pub text_room : ℕ
text_room = 524288

-- what a buffer for a sheet or a table is filled with
abbrev pub fill : ℕ
fill = 0xa5

-- the first n bytes of two buffers are the same
abbrev pub SameBytes : (n : ℕ) → (a b : List ℕ) → Type 0
SameBytes n a b = (i : ℕ) → i < n → get_or a i 0 ≡ get_or b i 0
