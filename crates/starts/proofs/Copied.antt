-- What no bits stand for, with the rests added up for their power. A starting table copied tone by tone with its totals: what the turns of
-- `from_start` keep, and what the whole copy stands for.
-- Assumes nothing.
use mathlib.Core.Path.{◌≡◌, refl, sym, ◌∙◌}
use mathlib.Core.List.{List}
use Prim.Native.Nat.{ℕ, suc, ◌+◌, ◌*◌, ◌^◌, ◌≤◌, ◌<◌}
use native.Mathlib.Nat.{le_of_lt}
use native.Mathlib.Numerals.{add-one}
use native.Mathlib.Omega.{arith}
use lib.ListN.{length, set, replicate}
use Rattle.sizes.specs.Sizes.{most_tones}
use Rattle.lists.proofs.Stores.{all_same, Filled, filled_none, filled_more}
use Rattle.steps.specs.Tones.{Table, ◌!◌, no_bits, sum}
use Rattle.steps.proofs.Sums.{sum-at-most, sum-eq, sum-zero}
use Rattle.line.specs.Arrays.{Arrays, rest_at, power_at, RestsInRange, PowersInRange}
use Rattle.line.proofs.Powers.{power-high}
use Rattle.line.proofs.Arrays.{no-bits-stand, no-bits-power}
use Rattle.running.specs.declared.Running.{Running}
use Rattle.running.specs.declared.Totals.{Totals}
use Rattle.starts.specs.Starts.{CopiedFrom, StartsAtNone, StartsAt}

module _ (A : Arrays) (t : Table) where
  -- the power of tone j at its bits in a table
  abbrev pub start_power : (j : ℕ) → ℕ
  start_power j = power_at A j (t ! j)

  -- the first i tones are copied, with these totals
  pub record Copied (bits : List ℕ) (s : Totals) (i : ℕ) : Type 0 where
    pub inside : i ≤ length t
    pub copied : Filled most_tones (◌!◌ t) bits i
    pub sum_bits : s.bits ≡ sum i (◌!◌ t)
    pub sum_power : s.power ≡ sum i start_power
    pub small : s.bits ≤ 255 * i

-- with the rest of one tone more the sum stays below 2^64
pub rests-room : {count : ℕ} {A : Arrays} → RestsInRange count A → (i : ℕ) → i < count → count ≤ most_tones
    → sum i (rest_at A) + rest_at A i < 2 ^ 64
unfolding sum
rests-room {A = A} R i il few =
    omega (arith, sum-at-most (suc i) (2 ^ 24) (rest_at A) (λ j jl. omega (arith, R.rest_high j (omega arith))))

-- no bits, with the rests for their power, stand for the table of no bits
pub none-starts : {count power : ℕ} {A : Arrays} → power ≡ sum count (rest_at A)
    → StartsAtNone count A (record { bits = replicate most_tones 0; totals = record { bits = 0; power = power } })
none-starts e T D R = record {
  table = no-bits-stand D R;
  sums = record { same_bits = sym (sum-zero T.count (◌!◌ (no_bits T)) (λ i il. all_same T.count i 0)); same_power = e ∙ sym (no-bits-power D) };
}

-- a running table that is copied from a starting table stands for it by any array with the same powers: the limits play no part
pub copied-starts : {A other : Arrays} {t : Table} {r : Running} → CopiedFrom A t r
    → ((i b : ℕ) → i < length t → power_at other i b ≡ power_at A i b) → StartsAt other t r
copied-starts {A} {other} {t} C same T D R K = record {
  table = record { describes = D; rising = R; within = K; same_bits = λ j jl. sym (C.same_bits j jl) };
  sums = record {
    same_bits = rw K.sized at C.total_bits;
    same_power = rw K.sized at C.total_power
        ∙ sum-eq T.count _ _ (λ j jl. sym (D.same_power j (t ! j) (omega (arith, K.sized)) (K.under j jl) ∙ same j (t ! j) (omega (arith, K.sized))));
  };
}

module _ {A : Arrays} {t : Table} where
  -- no tone is copied yet
  pub none-copied : Copied A t (replicate most_tones 0) (record { bits = 0; power = 0 }) 0
  unfolding sum
  none-copied = record { inside = omega arith; copied = filled_none most_tones (◌!◌ t); sum_bits = refl; sum_power = refl; small = omega arith }

  -- with one tone more the sum stays below 2^64
  pub power-room : PowersInRange (length t) A t → (i : ℕ) → i < length t → length t ≤ most_tones
      → sum i (start_power A t) + start_power A t i < 2 ^ 64
  unfolding sum
  power-room R i il few = omega (arith, sum-at-most (suc i) (2 ^ 39) (start_power A t) (λ j jl. high j (omega arith)))
    where
      high : (j : ℕ) → j < length t → start_power A t j ≤ 2 ^ 39
      high j jl = le_of_lt (power-high _ _ _ (t ! j) (R.cost_high j jl) (R.shift_high j jl) (R.rest_high j jl))

  module _ {bits : List ℕ} {s : Totals} {i : ℕ} (C : Copied A t bits s i) where
    -- one tone more is copied
    pub copied_more : (b p : ℕ) → i < length t → i < most_tones → b ≡ t ! i → b ≤ 255 → p ≡ start_power A t i
        → Copied A t (set bits i b) (record { bits = s.bits + b; power = s.power + p }) (i + 1)
    unfolding sum
    copied_more b p il low e small q = record {
      inside = omega arith;
      copied = filled_more C.copied b low e;
      sum_bits = rw add-one (omega (arith, C.sum_bits));
      sum_power = rw add-one (omega (arith, C.sum_power));
      small = omega (arith, C.small);
    }

    -- all tones are copied
    pub copied-from : i ≡ length t → CopiedFrom A t (record { bits = bits; totals = s })
    copied-from e = record {
      same_bits = λ j jl. C.copied.front j (omega arith);
      total_bits = rw e at C.sum_bits;
      total_power = rw e at C.sum_power;
    }

    pub copied-stands : i ≡ length t → StartsAt A t (record { bits = bits; totals = s })
    copied-stands e = copied-starts (copied-from e) (λ j b jl. refl)
