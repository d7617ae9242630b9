-- The order of steps as an order of numbers: the place of a step is its size times the number of tones, plus its tone.
-- Every argument about the order is then one about numbers.
-- Assumes nothing.
use mathlib.Core.Path.{◌≡◌, ap}
use mathlib.Core.Logic.{◌≢◌}
use Prim.Native.Nat.{ℕ, suc, ◌+◌, ◌*◌, ◌≤◌, ◌<◌}
use native.Mathlib.Nat.{mul-le-mul_right}
use native.Mathlib.Decide.{dec_lt, le_ind, ℕ_discrete}
use native.Mathlib.Omega.{arith}
use Rattle.steps.specs.Tones.{Tones, step, Rising, Before, by_size, by_tone, Table, Held, Free}
use Rattle.steps.specs.Claims.{Efficient}

-- 'before' is a strict order
module _ (T : Tones) where
  pub before-irreflexive : {i b : ℕ} → ¬ Before T i b i b
  before-irreflexive (by_size l) = omega arith
  before-irreflexive (by_tone e l) = omega arith

  pub before-trans : {i b j c k d : ℕ} → Before T i b j c → Before T j c k d → Before T i b k d
  before-trans (by_size l) (by_size m) = by_size (omega arith)
  before-trans (by_size l) (by_tone e m) = by_size (omega arith)
  before-trans (by_tone e l) (by_size m) = by_size (omega arith)
  before-trans (by_tone e l) (by_tone d m) = by_tone (omega arith) (omega arith)

  pub place : (i b : ℕ) → ℕ
  place i b = step T i b * T.count + i

  -- the smaller step stands first
  size-first : (i b j c : ℕ) → i < T.count → step T i b < step T j c → place i b < place j c
  unfolding place
  size-first i b j c il h = omega (arith, mul-le-mul_right T.count h)

  pub size-place : (i b j c : ℕ) → j < T.count → place i b ≤ place j c → step T i b ≤ step T j c
  size-place i b j c jl h = go (dec_lt (step T j c) (step T i b))
    where
      go : Dec (step T j c < step T i b) → step T i b ≤ step T j c
      go (yes q) = absurd (omega (arith, size-first j c i b jl q))
      go (no q) = omega arith

  -- two tones share no place
  place-tone : (i b j c : ℕ) → i < T.count → j < T.count → place i b ≡ place j c → i ≡ j
  unfolding place
  place-tone i b j c il jl e =
      let s : step T i b ≡ step T j c = omega (arith, size-place i b j c jl (omega arith), size-place j c i b il (omega arith)) in
      omega (arith, ap (λ (n : ℕ). n * T.count) s)

  -- the order of places is the order of steps
  pub before-place : {i b j c : ℕ} → i < T.count → Before T i b j c → place i b < place j c
  unfolding place
  before-place {i} {b} {j} {c} il (by_size l) = size-first i b j c il l
  before-place il (by_tone e l) = omega (arith, ap (λ (n : ℕ). n * T.count) e)

  pub place-before : (i b j c : ℕ) → j < T.count → place i b < place j c → Before T i b j c
  unfolding place
  place-before i b j c jl h = go (dec_lt (step T i b) (step T j c))
    where
      go : Dec (step T i b < step T j c) → Before T i b j c
      go (yes q) = by_size q
      go (no m) =
          let e : step T i b ≡ step T j c = omega (arith, size-place i b j c jl (omega arith)) in
          by_tone e (omega (arith, ap (λ (n : ℕ). n * T.count) e))

  pub sorted-place : {t : Table} → Efficient T t → {i b j c : ℕ} → Held T t i b → Free T t j c → place i b < place j c
  sorted-place s x y = before-place x.tone (s.sorted x y)

module _ (T : Tones) (R : Rising T) where
  -- a step is what one bit more adds to the power
  pub adds : (i b : ℕ) → i < T.count → b < T.limit i → T.power i (suc b) ≡ T.power i b + step T i b
  unfolding step
  adds i b il bl = omega (arith, R.grows i b il bl)

  step-rises : (i b c : ℕ) → i < T.count → b < c → c < T.limit i → step T i b < step T i c
  step-rises i b c il h cl =
      le_ind (λ (n : ℕ). n < T.limit i → step T i b < step T i n) (λ l. R.rises i b il l)
      (λ n q ih l. omega (arith, ih (omega arith), R.rises i n il l)) c h cl

  pub place-rises : (i b c : ℕ) → i < T.count → b < c → c < T.limit i → place T i b < place T i c
  place-rises i b c il h cl = size-first T i b i c il (step-rises i b c il h cl)

  pub power-rises : (i b c : ℕ) → i < T.count → b ≤ c → c ≤ T.limit i → T.power i b ≤ T.power i c
  power-rises i b c il h cl =
      le_ind (λ (n : ℕ). n ≤ T.limit i → T.power i b ≤ T.power i n) (λ l. omega arith)
      (λ n q ih l. omega (arith, ih (omega arith), R.grows i n il l)) c h cl

  -- of two steps the one that does not stand later stands first, unless they are one
  pub place-lt : (i b j c : ℕ) → i < T.count → j < T.count → c < T.limit j → (i ≡ j → b < c) → place T i b ≤ place T j c → place T i b < place T j c
  place-lt i b j c il jl cl d h = go (ℕ_discrete i j)
    where
      go : Dec (i ≡ j) → place T i b < place T j c
      go (yes e) = rw e (place-rises j b c jl (d e) cl)
      go (no m) =
          let n : place T i b ≢ place T j c = λ e. m (place-tone T i b j c il jl e) in
          omega arith
