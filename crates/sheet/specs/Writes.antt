-- A call that writes bytes of the line that a sheet means, for all bytes of the sheet and all buffers.
-- Assumes nothing.
use Rattle.std.specs.Prelude.{List, ℕ}
use Rattle.line.specs.Line.{Line}
use Rattle.refusals.specs.Writing.{Writing, turned_down, if_fits}
use Rattle.sheet.specs.Reading.{Meaning, accepted, refused}

-- the refusals of the sheet come first; then 8, if the bytes do not fit
abbrev pub writing : (bytes : Line → List ℕ) → Meaning → (room : ℕ) → Writing
writing bytes (accepted l) room = if_fits room (bytes l)
writing bytes (refused r) room = turned_down r
