-- What is proved of the tidy form, for every accepted sheet.
-- Assumes nothing.
use Rattle.std.specs.Prelude.{List, ◌≡◌, ℕ, ◌≤◌, length}
use Rattle.sizes.specs.Sizes.{longest_sheet}
use Rattle.line.specs.Line.{Line}
use Rattle.sheet.specs.Reading.{accepted, reading}
use Rattle.tidyform.specs.Tidy.{tidy}

-- 'Tidying keeps the line, and tidying a tidy sheet returns it'; the tidy sheet is never longer, and a sheet itself.
pub record TidyKeeps (s : List ℕ) (l : Line) : Type 0 where
  pub keeps_line : reading (tidy l) ≡ accepted l
  pub returns_tidy : (k : Line) → reading (tidy l) ≡ accepted k → tidy k ≡ tidy l
  pub no_longer : length (tidy l) ≤ length s
  pub short : length (tidy l) ≤ longest_sheet
