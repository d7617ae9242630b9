-- Parts one after the other.
-- Assumes nothing.
use Rattle.std.specs.Prelude.{List, [], ◌++◌, ℕ, zero, suc}

-- the parts of the numbers below n, in rising number
unfoldable pub joined_below : (part : (k : ℕ) → List ℕ) → (n : ℕ) → List ℕ
joined_below part zero = []
joined_below part (suc n) = joined_below part n ++ part n
