-- Laws of `sum`, and cases of numbers.
-- Assumes nothing.
use mathlib.Core.Path.{◌≡◌, refl, sym, ap, subst}
use mathlib.Core.Logic.{◌≢◌}
use Prim.Native.Nat.{ℕ, zero, suc, ◌+◌, ◌*◌, ◌≤◌, ◌<◌}
use native.Mathlib.Nat.{not-suc-le-zero}
use native.Mathlib.Decide.{dec_lt, ℕ_discrete}
use native.Mathlib.Omega.{arith}
use Rattle.steps.specs.Tones.{sum}

-- what holds below n, and at n, holds below n + 1
pub upto {ℓ} : (P : ℕ → Type ℓ) (n : ℕ) → ((j : ℕ) → j < n → P j) → P n → (j : ℕ) → j < suc n → P j
upto P n low top j h = go (dec_lt j n)
  where
    go : Dec (j < n) → P j
    go (yes l) = low j l
    go (no m) = subst P (let e : n ≡ j = omega arith in e) top

pub sum-le : (n : ℕ) (f g : ℕ → ℕ) → ((i : ℕ) → i < n → f i ≤ g i) → sum n f ≤ sum n g
unfolding sum
sum-le zero f g h = omega arith
sum-le (suc n) f g h =
    omega (arith, sum-le n f g (λ i l. h i (omega arith)), h n (omega arith))

-- entries of at most m add up to at most m for each
pub sum-at-most : (n m : ℕ) (f : ℕ → ℕ) → ((i : ℕ) → i < n → f i ≤ m) → sum n f ≤ n * m
unfolding sum
sum-at-most zero m f h = omega arith
sum-at-most (suc n) m f h =
    omega (arith, sum-at-most n m f (λ i l. h i (omega arith)), h n (omega arith))

pub sum-eq : (n : ℕ) (f g : ℕ → ℕ) → ((i : ℕ) → i < n → f i ≡ g i) → sum n f ≡ sum n g
unfolding sum
sum-eq zero f g h = refl
sum-eq (suc n) f g h =
    omega (arith, sum-eq n f g (λ i l. h i (omega arith)), h n (omega arith))

-- a sum changes by as much as the one entry that changes
pub sum-at : (n : ℕ) (f g : ℕ → ℕ) (k : ℕ) → k < n → ((i : ℕ) → i < n → i ≢ k → f i ≡ g i) → sum n f + g k ≡ sum n g + f k
unfolding sum
sum-at zero f g k l h = absurd (not-suc-le-zero l)
sum-at (suc n) f g k l h = go (ℕ_discrete k n) (λ m. sum-at n f g k m (λ i q. h i (omega arith)))
  where
    go : Dec (k ≡ n) → (k < n → sum n f + g k ≡ sum n g + f k) → sum n f + f n + g k ≡ sum n g + g n + f k
    go (yes e) ih =
        let s : sum n f ≡ sum n g = sum-eq n f g (λ i q. h i (omega arith) (omega arith)) in
        omega (arith, ap f e, ap g e)
    go (no m) ih = omega (arith, ih (omega arith), h n (omega arith) (λ e. m (sym e)))

-- where no entry falls and one grows by d, the sum grows by d
pub sum-gap : (n : ℕ) (f g : ℕ → ℕ) (k d : ℕ) → k < n → ((i : ℕ) → i < n → f i ≤ g i) → f k + d ≤ g k → sum n f + d ≤ sum n g
unfolding sum
sum-gap zero f g k d l h q = absurd (not-suc-le-zero l)
sum-gap (suc n) f g k d l h q = go (ℕ_discrete k n) (λ m. sum-gap n f g k d m (λ i l. h i (omega arith)) q)
  where
    go : Dec (k ≡ n) → (k < n → sum n f + d ≤ sum n g) → sum n f + f n + d ≤ sum n g + g n
    go (yes e) ih = omega (arith, sum-le n f g (λ i l. h i (omega arith)), ap f e, ap g e)
    go (no m) ih = omega (arith, ih (omega arith), h n (omega arith))

-- a bound at each entry, with θ for each unit of x or y, is a bound on the sums
pub sum-trade : (n θ : ℕ) (f g x y : ℕ → ℕ) → ((i : ℕ) → i < n → f i + θ * x i ≤ g i + θ * y i) → sum n f + θ * sum n x ≤ sum n g + θ * sum n y
unfolding sum
sum-trade zero θ f g x y h = omega arith
sum-trade (suc n) θ f g x y h =
    omega (arith, sum-trade n θ f g x y (λ i l. h i (omega arith)), h n (omega arith))

pub sum-zero : (n : ℕ) (f : ℕ → ℕ) → ((i : ℕ) → i < n → f i ≡ 0) → sum n f ≡ 0
unfolding sum
sum-zero zero f h = refl
sum-zero (suc n) f h = omega (arith, sum-zero n f (λ i l. h i (omega arith)), h n (omega arith))
