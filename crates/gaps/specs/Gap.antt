-- The gap of a line, in either of the units that a sheet gives it in. Document 01, 'Cost, power and limit of a tone'; document 02, W1.
-- Assumes nothing.
use Rattle.std.specs.Prelude.{cond, List, ℕ, zero, suc, ◌*◌, ◌^◌, ◌≤◌, ltb, get_or}
use Rattle.std.proofs.Math.Logic.{ite}
use Rattle.std.proofs.Math.Decide.{dec_le}
use Rattle.gaps.specs.declared.Gap.{Gap}
use Rattle.gaps.specs.declared.Gap.TheVariants.{Parts, Tenths}

-- 'The gap g (256 to 65,535) is in 1/256: 256 means no gap.'
abbrev pub gap_unit : ℕ
gap_unit = 256

abbrev pub most_gap : ℕ
most_gap = 65535

pub record PartsInRange (g : ℕ) : Type 0 where
  pub low : gap_unit ≤ g
  pub high : g ≤ most_gap

-- W1: 'one operand byte d from 0 to 240'
abbrev pub most_tenths : ℕ
most_tenths = 240

-- W1: 'g^100 at least 256^100 × 10^d'
abbrev pub threshold : (d : ℕ) → ℕ
threshold d = gap_unit ^ 100 * 10 ^ d

abbrev pub Reaches : (d g : ℕ) → Type 0
Reaches d g = threshold d ≤ g ^ 100

-- W1: 'the smallest whole g with ..': no smaller whole number passes
pub record Smallest (P : ℕ → Type 0) (g : ℕ) : Type 0 where
  pub passes : P g
  pub least : (k : ℕ) → P k → g ≤ k

-- the smallest of the n numbers from k on that passes the test, k + n where none does
unfoldable pub smallest : {P : ℕ → Type 0} → ((g : ℕ) → Dec (P g)) → (n k : ℕ) → ℕ
smallest test zero k = k
smallest test (suc n) k = ite (test k) k (smallest test n (suc k))

-- W1: 'The gap is then the smallest whole g with g^100 at least 256^100 × 10^d', which is looked for up to the largest gap.
unfoldable pub gap_of_tenths : (d : ℕ) → ℕ
unfolding smallest
gap_of_tenths d = smallest (λ g. dec_le (threshold d) (g ^ 100)) (suc most_gap) 0

-- W1: 'from a table of 241 entries, one for each tenth, whose rule is shown over the whole table together'
pub record TenthsTable (gaps : List ℕ) : Type 0 where
  pub entry : (d : ℕ) → d ≤ most_tenths → Smallest (Reaches d) (get_or gaps d 0)

-- the gap in 1/256; 0 of more tenths than a sheet may have
abbrev pub parts : Gap → ℕ
parts (Parts g) = g
parts (Tenths d) = cond (ltb most_tenths d) 0 (gap_of_tenths d)

-- the ranges of either
abbrev pub GapInRange : Gap → Type 0
GapInRange (Parts g) = PartsInRange g
GapInRange (Tenths d) = d ≤ most_tenths
