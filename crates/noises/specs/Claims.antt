-- What is proved of noises: what a higher one does to a line's tones, and the claim of the guarded loading.
-- Assumes nothing.
use Rattle.std.specs.Prelude.{◌≡◌, ℕ, ◌≤◌, ◌<◌}
use Rattle.steps.specs.Tones.{Tones, Table, total_bits, total_power, KeepsLimits, KeepsBudget}
use Rattle.line.specs.Line.{Line, tones}
use Rattle.noises.specs.Noises.{Inside, with_noises, at_high}

-- Tones U are dearer than T: as many, with limits that are no higher and powers that are no lower.
pub record Dearer (T U : Tones) : Type 0 where
  pub same_count : T.count ≡ U.count
  pub limits_fall : (i : ℕ) → i < T.count → U.limit i ≤ T.limit i
  pub powers_rise : (i b : ℕ) → i < T.count → T.power i b ≤ U.power i b

-- 'For every choice of noises inside the ranges its table keeps limits and budget': those of the line with the chosen noises.
pub record Guards (l : Line) (t : Table) : Type 0 where
  pub limits : (choice : ℕ → ℕ) → Inside l choice → KeepsLimits (tones (with_noises choice l)) t
  pub budget : (choice : ℕ → ℕ) → Inside l choice → KeepsBudget (tones (with_noises choice l)) l.budget t

-- 'and no table with that property carries more bits, or as many with less power at the high noises'
pub record BestGuarded (l : Line) (t : Table) : Type 0 where
  pub guards : Guards l t
  pub most : (u : Table) → Guards l u → total_bits (tones l) u ≤ total_bits (tones l) t
  pub least : (u : Table) → Guards l u → total_bits (tones l) u ≡ total_bits (tones l) t → total_power (tones (at_high l)) t ≤ total_power (tones (at_high l)) u
