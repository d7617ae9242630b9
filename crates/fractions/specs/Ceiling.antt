-- A fraction rounded up. Documents 01 and 02: 'the smallest whole number not below' a fraction.
-- Assumes nothing.
use Rattle.std.specs.Prelude.{ℕ, ◌+◌, ◌-◌, ◌/◌}

-- the smallest whole number not below a / b, for b above zero
abbrev pub ceiling : (a b : ℕ) → ℕ
ceiling a b = (a + (b - 1)) / b
