-- The searches find what they are named for: the earliest of all free steps, and the latest of all held ones.
-- Assumes nothing.
use mathlib.Core.Path.{◌≡◌, sym, ap}
use mathlib.Core.Logic.{ite}
use mathlib.Core.Option.{Option, none, some}
use Prim.Native.Nat.{ℕ, zero, suc, ◌-◌, ◌≤◌, ◌<◌}
use native.Mathlib.Decide.{dec_lt, ℕ_discrete}
use native.Mathlib.Omega.{arith}
use Rattle.steps.specs.Tones.{Tones, Rising, Before, before?, Table, ◌!◌, KeepsLimits, Held, Free}
use Rattle.steps.specs.Runs.{against, choice, earliest_free, latest_held}
use Rattle.steps.proofs.Sums.{upto}
use Rattle.steps.proofs.Order.{before-irreflexive, before-trans, place, place-before, place-lt, place-rises}

-- what `choice` finds among the first n tones
abbrev Chosen : (has : ℕ → Type 0) (beats : ℕ → ℕ → Type 0) → ℕ → Option ℕ → Type 0
Chosen has beats n none = (j : ℕ) → j < n → ¬ has j
Chosen has beats n (some i) = (i < n) × has i × ((j : ℕ) → j < n → has j → ¬ beats j i)

module _ {has : ℕ → Type 0} {beats : ℕ → ℕ → Type 0} (has? : (i : ℕ) → Dec (has i)) (beats? : (i j : ℕ) → Dec (beats i j))
    (irreflexive : (i : ℕ) → ¬ beats i i) (trans : (i j k : ℕ) → beats i j → beats j k → beats i k) where
  weigh : (n i : ℕ) (d : Dec (beats n i)) → has n → Chosen has beats n (some i) → Chosen has beats (suc n) (ite d (some n) (some i))
  weigh n i (yes b) q h = (omega arith, q, upto (λ j. has j → ¬ beats j n) n (λ j l x bj. h.2 j l x (trans j n i bj b)) (λ x. irreflexive n))
  weigh n i (no m) q h = (omega arith, h.1, upto (λ j. has j → ¬ beats j i) n h.2 (λ x. m))

  onward : (n : ℕ) (d : Dec (has n)) (o : Option ℕ) → Chosen has beats n o → Chosen has beats (suc n) (ite d (against has? beats? n o) o)
  unfolding against
  onward n (no m) none h = upto (λ j. ¬ has j) n h m
  onward n (no m) (some i) h = (omega arith, h.1, upto (λ j. has j → ¬ beats j i) n h.2 (λ x. absurd (m x)))
  onward n (yes q) none h = (omega arith, q, upto (λ j. has j → ¬ beats j n) n (λ j l x. absurd (h j l x)) (λ x. irreflexive n))
  onward n (yes q) (some i) h = weigh n i (beats? n i) q h

  choice-is : (n : ℕ) → Chosen has beats n (choice has? beats? n)
  unfolding choice
  choice-is zero = λ j l x. omega arith
  choice-is (suc n) = onward n (has? n) (choice has? beats? n) (choice-is n)

module _ (T : Tones) where
  -- no free step comes before the one of tone i
  pub record Earliest (t : Table) (i : ℕ) : Type 0 where
    pub free : Free T t i (t ! i)
    pub first : {j c : ℕ} → Free T t j c → place T i (t ! i) ≤ place T j c

  -- no held step comes after the one of tone i at b bits
  pub record Latest (t : Table) (i b : ℕ) : Type 0 where
    pub tone : i < T.count
    pub top : t ! i ≡ suc b
    pub last : {j c : ℕ} → Held T t j c → place T j c ≤ place T i b

  abbrev pub First : Table → Option ℕ → Type 0
  First t none = (j c : ℕ) → ¬ Free T t j c
  First t (some i) = Earliest t i

  abbrev pub Last : Table → Option ℕ → Type 0
  Last t none = (j c : ℕ) → ¬ Held T t j c
  Last t (some i) = Latest t i (t ! i - 1)

  pub not_after : {i b j c : ℕ} → i < T.count → j < T.count → ¬ Before T j c i b → place T i b ≤ place T j c
  not_after {i} {b} {j} {c} il jl m = go (dec_lt (place T j c) (place T i b))
    where
      go : Dec (place T j c < place T i b) → place T i b ≤ place T j c
      go (yes q) = absurd (m (place-before T j c i b il q))
      go (no k) = omega arith

module _ (T : Tones) (R : Rising T) (t : Table) where
  pub earliest_free-is : First T t (earliest_free T t)
  unfolding earliest_free
  earliest_free-is =
      found (earliest_free T t)
      (choice-is (λ i. dec_lt (t ! i) (T.limit i)) (λ i j. before? T i (t ! i) j (t ! j)) (λ i. before-irreflexive T) (λ i j k. before-trans T) T.count)
    where
      -- a tone's own earliest free step is the one at its present bits
      own : (j c : ℕ) → Free T t j c → place T j (t ! j) ≤ place T j c
      own j c f = up (ℕ_discrete (t ! j) c)
        where
          up : Dec (t ! j ≡ c) → place T j (t ! j) ≤ place T j c
          up (yes e) = rw e (omega arith)
          up (no m) = omega (arith, place-rises T R j (t ! j) c f.tone (omega arith) f.below)

      found : (o : Option ℕ) → Chosen (λ i. t ! i < T.limit i) (λ i j. Before T i (t ! i) j (t ! j)) T.count o → First T t o
      found none h = λ j c f. h j f.tone (omega arith)
      found (some i) h = record {
        free = record { tone = h.0; above = omega arith; below = h.1 };
        first = λ {j} {c} f. omega (arith, own j c f, not_after T h.0 f.tone (h.2 j f.tone (omega arith)));
      }

  pub latest_held-is : KeepsLimits T t → Last T t (latest_held T t)
  unfolding latest_held
  latest_held-is w =
      found (latest_held T t)
      (choice-is (λ i. dec_lt 0 (t ! i)) (λ i j. before? T j (t ! j - 1) i (t ! i - 1)) (λ i. before-irreflexive T) (λ i j k p q. before-trans T q p) T.count)
    where
      -- a tone's own latest held step is the one at a bit fewer than it has
      own : (j c : ℕ) → Held T t j c → place T j c ≤ place T j (t ! j - 1)
      own j c f = up (ℕ_discrete c (t ! j - 1))
        where
          up : Dec (c ≡ t ! j - 1) → place T j c ≤ place T j (t ! j - 1)
          up (yes e) = rw e (omega arith)
          up (no m) = omega (arith, place-rises T R j c (t ! j - 1) f.tone (omega arith) (omega (arith, w.under j f.tone)))

      found : (o : Option ℕ) → Chosen (λ i. 0 < t ! i) (λ i j. Before T j (t ! j - 1) i (t ! i - 1)) T.count o → Last T t o
      found none h = λ j c f. h j f.tone (omega arith)
      found (some i) h = record {
        tone = h.0;
        top = omega arith;
        last = λ {j} {c} f. omega (arith, own j c f, not_after T f.tone h.0 (h.2 j f.tone (omega arith)));
      }

-- The same in document 01's words: the earliest free step comes before every other free step, on a tie that of the lowest tone;
-- the latest held one comes after every other held step.
module _ (T : Tones) (R : Rising T) (t : Table) where
  pub earliest-before : (i : ℕ) → earliest_free T t ≡ some i → (j c : ℕ) → Free T t j c → ¬ ((i ≡ j) × (t ! i ≡ c)) → Before T i (t ! i) j c
  earliest-before i found j c x other =
      place-before T i (t ! i) j c x.tone
      (place-lt T R i (t ! i) j c E.free.tone x.tone x.below (λ e. lt e (ℕ_discrete (t ! i) c)) (E.first x))
    where
      E : Earliest T t i
      E = rw found at (earliest_free-is T R t)

      lt : i ≡ j → Dec (t ! i ≡ c) → t ! i < c
      lt e (yes q) = absurd (other (e, q))
      lt e (no m) = omega (arith, ap (◌!◌ t) e, x.above)

  pub latest-after : KeepsLimits T t → (i : ℕ) → latest_held T t ≡ some i → (j c : ℕ) → Held T t j c → ¬ ((i ≡ j) × (t ! i - 1 ≡ c)) → Before T j c i (t ! i - 1)
  latest-after w i found j c x other =
      place-before T j c i (t ! i - 1) H.tone
      (place-lt T R j c i (t ! i - 1) x.tone H.tone (omega (arith, H.top, w.under i H.tone)) (λ e. lt e (ℕ_discrete (t ! i - 1) c)) (H.last x))
    where
      H : Latest T t i (t ! i - 1)
      H = rw found at (latest_held-is T R t w)

      lt : j ≡ i → Dec (t ! i - 1 ≡ c) → c < t ! i - 1
      lt e (yes q) = absurd (other (sym e, q))
      lt e (no m) = omega (arith, ap (◌!◌ t) e, x.held)
