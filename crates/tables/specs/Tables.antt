-- Tables as bytes. Document 01, 'The line sheet': 'A loading writes 9 bytes a tone, from tone 0 up: bits, then power in 8 bytes, high
-- byte first'.
-- Assumes nothing.
use Rattle.std.specs.Prelude.{List, ◌∷◌, ◌≡◌, ℕ, get_or}
use Rattle.std.proofs.lemmas.List.Edits.{sets}
use Rattle.lists.specs.Joined.{joined_below}
use Rattle.bigendian.specs.Number.{bytes}
use Rattle.steps.specs.Tones.{Tones, Table, ◌!◌}
use Rattle.line.specs.Arrays.{Arrays, power_at, StandsFor}

-- the 9 bytes of tone i
abbrev pub tone_entry : Tones → Table → (i : ℕ) → List ℕ
tone_entry T t i = t ! i ∷ bytes 8 (T.power i (t ! i))

-- those of all tones
abbrev pub table_bytes : Tones → Table → List ℕ
table_bytes T t = joined_below (tone_entry T t) T.count

-- the 9 bytes of tone i by its steps and its bits, whatever its limit
abbrev pub steps_entry : Arrays → (bits : List ℕ) → (i : ℕ) → List ℕ
steps_entry A bits i = get_or bits i 0 ∷ bytes 8 (power_at A i (get_or bits i 0))

-- The buffer afterwards: the bytes of whatever table of rising tones the array and the bits stand for, from its start on.
abbrev pub WritesTable : (count : ℕ) → Arrays → (bits old new : List ℕ) → Type 0
WritesTable count A bits old new = (T : Tones) (t : Table) → StandsFor count A bits T t → new ≡ sets old 0 (table_bytes T t)
