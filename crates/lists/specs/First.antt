-- The first number that passes a test, of those below another.
-- Assumes nothing.
use Rattle.std.specs.Prelude.{Bool, cond, ℕ, zero, suc, Option, Some, None}

-- the first of two that is there
unfoldable pub or_else : Option ℕ → Option ℕ → Option ℕ
or_else (Some i) o = Some i
or_else None o = o

-- of the numbers below n, the first that passes
unfoldable pub first : (test : (i : ℕ) → Bool) → (n : ℕ) → Option ℕ
unfolding or_else
first test zero = None
first test (suc n) = or_else (first test n) (cond (test n) (Some n) None)
