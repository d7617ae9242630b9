-- Which tone a command addresses. Document 01, 'The line sheet'; document 02, W8.
-- Assumes nothing.
use Rattle.std.specs.Prelude.{cond, List, ℕ, ◌+◌, ◌-◌, ◌*◌, ltb, get_or}
use Rattle.bigendian.specs.Number.{number}

-- W8: 'Each command with a tone byte gets a twin, 10 (hex) higher, with a two-byte tone number, its other operands alike.'
abbrev pub twin : ℕ
twin = 0x10

-- the byte of a command whose tone number has so many bytes, by the byte of the short one
abbrev pub code_of : (width short : ℕ) → ℕ
code_of width short = short + twin * (width - 1)

-- and back, from the byte of a command: the bytes of its tone number, and the byte of the short one
abbrev pub number_width : (code : ℕ) → ℕ
number_width code = cond (ltb code twin) 1 2

abbrev pub short_of : (code : ℕ) → ℕ
short_of code = cond (ltb code twin) code (code - twin)

-- The tone that the command at a place addresses, if it addresses one: the number after the command's own byte.
abbrev pub addressed : List ℕ → (place : ℕ) → ℕ
addressed s place = number s (place + 1) (number_width (get_or s place 0))

-- where what it carries stands: after the tone's number
abbrev pub carried_at : List ℕ → (place : ℕ) → ℕ
carried_at s place = place + 1 + number_width (get_or s place 0)
