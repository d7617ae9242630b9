-- Parts one after the other: how long they are, what they go by, and a buffer in which they are written one by one.
-- Assumes nothing.
use mathlib.Core.List.{List}
use mathlib.Core.Path.{◌≡◌, refl, sym, ap, ◌∙◌}
use Prim.Native.Nat.{ℕ, zero, suc, ◌+◌, ◌*◌, ◌≤◌, ◌<◌}
use native.Mathlib.Decide.{le_ind}
use native.Mathlib.Nat.{mul-suc}
use native.Mathlib.Numerals.{add-one}
use native.Mathlib.Omega.{arith}
use lib.ListN.{length, length-append}
use lib.Seq.{sets, length-sets}
use Rattle.lists.specs.Joined.{joined_below}
use Rattle.lists.proofs.Stores.{sets-append}

-- equal parts are joined alike
pub joined_same : (part other : ℕ → List ℕ) (n : ℕ) → ((i : ℕ) → i < n → part i ≡ other i) → joined_below part n ≡ joined_below other n
unfolding joined_below
joined_same part other zero h = refl
joined_same part other (suc n) h = rw (joined_same part other n (λ i l. h i (omega arith)), h n (omega arith))

module _ (part : ℕ → List ℕ) where
  pub length_none : length (joined_below part 0) ≡ 0
  unfolding joined_below
  length_none = refl

  pub length-next : (i : ℕ) → length (joined_below part (suc i)) ≡ length (joined_below part i) + length (part i)
  unfolding joined_below
  length-next i = length-append (joined_below part i) (part i)

  -- parts of one length
  pub length-even : (width : ℕ) → ((i : ℕ) → length (part i) ≡ width) → (n : ℕ) → length (joined_below part n) ≡ width * n
  length-even width e zero = omega (arith, length_none)
  length-even width e (suc n) = omega (arith, length-next n, length-even width e n, e n, mul-suc width n)

  -- the parts up to the next one are no longer than the whole
  pub length-part-le : {i n : ℕ} → i < n → length (joined_below part i) + length (part i) ≤ length (joined_below part n)
  length-part-le {i} {n} h =
      let longer = le_ind (λ (k : ℕ). length (joined_below part (suc i)) ≤ length (joined_below part k)) (omega arith) (λ k l p. omega (arith, length-next k)) n h in
      omega (arith, length-next i)

-- the first i parts are written from `at` on, up to `place`
pub record Written (part : ℕ → List ℕ) (out₀ : List ℕ) (at i : ℕ) (out : List ℕ) (place : ℕ) : Type 0 where
  pub place_is : place ≡ at + length (joined_below part i)
  pub stores : out ≡ sets out₀ at (joined_below part i)
  pub same_length : length out ≡ length out₀

module _ (part : ℕ → List ℕ) (out₀ : List ℕ) (at : ℕ) where
  pub written_none : Written part out₀ at 0 out₀ at
  unfolding joined_below
  written_none = record { place_is = omega (arith, length_none part); stores = refl; same_length = refl }

  -- the next part has room where all of them have
  pub written-room : {i n place : ℕ} {out : List ℕ} → Written part out₀ at i out place
      → i < n → at + length (joined_below part n) ≤ length out₀ → place + length (part i) ≤ length out
  written-room W h fits = omega (arith, length-part-le part h)

  pub written_next : {i place place' : ℕ} {out out' : List ℕ} → Written part out₀ at i out place
      → place' ≡ place + length (part i) → out' ≡ sets out place (part i) → Written part out₀ at (i + 1) out' place'
  unfolding joined_below
  written_next {i} {place} {place'} {out} {out'} W e s = rw add-one (record {
    place_is = omega (arith, length-next part i);
    stores = s ∙ rw (W.place_is, W.stores) (sym (sets-append out₀ at (joined_below part i) (part i)));
    same_length = ap length s ∙ length-sets out place (part i) ∙ W.same_length;
  })
