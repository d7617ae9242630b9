-- How many powers the search for a limit tries. Document 02, W4.
-- Assumes nothing.
use Rattle.std.specs.Prelude.{cond, ℕ, suc, eqb}
use Rattle.line.specs.declared.Tone.{Tone}
use Rattle.line.specs.Tone.{bounds_of, limit}

-- W4, of a tone that is not silent: 'the limit where that is the cap, otherwise one more'
unfoldable pub tries : Tone → (w : ℕ) → ℕ
tries t w = cond (eqb (limit t w) (bounds_of t).cap) (limit t w) (suc (limit t w))
