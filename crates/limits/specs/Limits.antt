-- The call that writes the limits of a sheet's tones, for all bytes and all buffers. Document 02, W3: 'A tone's limit now comes with what
-- set it: silent, cap, or mask.' The call writes 2 bytes a tone, from tone 0 up: the limit, then the number of what set it.
-- Assumes nothing.
use Rattle.std.specs.Prelude.{cond, List, [], ◌∷◌, ℕ, eqb}
use Rattle.lists.specs.Joined.{joined_below}
use Rattle.line.specs.declared.SetBy.{SetBy}
use Rattle.line.specs.declared.SetBy.TheVariants.{Silent, Cap, Mask}
use Rattle.line.specs.Line.{Line, tones, set_by_at}
use Rattle.refusals.specs.Writing.{Writing}
use Rattle.sheet.specs.Reading.{Meaning}
use Rattle.sheet.specs.Writes.{writing}

-- the number of each case: 0 silent, 1 cap, 2 mask
abbrev pub set_by_number : SetBy → ℕ
set_by_number Silent = 0
set_by_number Cap = 1
set_by_number Mask = 2

-- and the case of a number, for whoever reads the bytes; every other number is read as mask, so that each has a case
abbrev pub set_by_of : (number : ℕ) → SetBy
set_by_of number = cond (eqb number 0) Silent (cond (eqb number 1) Cap Mask)

-- the 2 bytes of tone i
abbrev pub limit_entry : Line → (i : ℕ) → List ℕ
limit_entry l i = (tones l).limit i ∷ set_by_number (set_by_at l i) ∷ []

-- those of all tones
abbrev pub limit_bytes : Line → List ℕ
limit_bytes l = joined_below (limit_entry l) l.size

-- The sheet's refusals, 8, or the limits written.
abbrev pub limiting : Meaning → (room : ℕ) → Writing
limiting m room = writing limit_bytes m room
