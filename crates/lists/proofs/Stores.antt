-- Lists of one value, lists after a store or after stores from the start on, and lists that are filled from the front.
-- Assumes nothing.
use mathlib.Core.List.{List, [], ◌∷◌, ◌++◌}
use mathlib.Core.Path.{◌≡◌, refl, ap, sym, ◌∙◌}
use Prim.Native.Nat.{ℕ, zero, suc, ◌+◌, ◌≤◌, ◌<◌}
use native.Mathlib.Decide.{dec_le, ℕ_discrete}
use native.Mathlib.Numerals.{unary_clauses}
use native.Mathlib.Omega.{arith}
use borrow.Author.Count.{below_more}
use lib.ListN.{length, drop, get_or, set, replicate, length-set, length-replicate}
use lib.Seq.{sets, sets-eq, get_or-set_same, get_or-set_other}

-- every element of a list of one value is that value, and so is what lies past its end
pub all_same : {A : Type 0} (n i : ℕ) (a : A) → get_or (replicate n a) i a ≡ a
all_same zero i a = refl
all_same (suc n) zero a = refl
all_same (suc n) (suc i) a = all_same n i a

-- what holds of the new element, and of each old one, holds after a store
pub after_store : {A : Type 0} (P : ℕ → A → Type 0) (l : List A) (i : ℕ) (v d : A) (j : ℕ) → i < length l → (j ≡ i → P j v) → P j (get_or l j d)
    → P j (get_or (set l i v) j d)
after_store P l i v d j h new old = by (ℕ_discrete j i)
  where
    by : Dec (j ≡ i) → P j (get_or (set l i v) j d)
    by (yes e) = rw (get_d_set_at e) (new e)
      where
        get_d_set_at : j ≡ i → get_or (set l i v) j d ≡ v
        get_d_set_at q = rw (q, get_or-set_same l i v d h)
    by (no m) = rw (get_or-set_other l i j v d m) old

-- a list of so many numbers, of which the first n are those of f and the rest 0
pub record Filled (room : ℕ) (f : ℕ → ℕ) (xs : List ℕ) (n : ℕ) : Type 0 where
  pub sized : length xs ≡ room
  pub front : (k : ℕ) → k < n → get_or xs k 0 ≡ f k
  pub past : (k : ℕ) → n ≤ k → get_or xs k 0 ≡ 0

pub filled_none : (room : ℕ) (f : ℕ → ℕ) → Filled room f (replicate room 0) 0
filled_none room f = record { sized = length-replicate room 0; front = λ k l. omega arith; past = λ k l. all_same room k 0 }

-- one more is stored
pub filled_more : {room : ℕ} {f : ℕ → ℕ} {xs : List ℕ} {n : ℕ} → Filled room f xs n → (v : ℕ) → n < room → v ≡ f n → Filled room f (set xs n v) (n + 1)
filled_more {room} {f} {xs} {n} F v inside e = record {
  sized = length-set xs n v ∙ F.sized;
  front = below_more _ n (λ k l. get_or-set_other xs n k v 0 (λ q. omega arith) ∙ F.front k l) (get_or-set_same xs n v 0 (omega (arith, F.sized)) ∙ e);
  past = λ k l. get_or-set_other xs n k v 0 (λ q. omega arith) ∙ F.past k (omega arith);
}

-- where f is 0 from n on, the list is all of f
pub filled-all : {room : ℕ} {f : ℕ → ℕ} {xs : List ℕ} {n : ℕ} → Filled room f xs n → ((k : ℕ) → n ≤ k → f k ≡ 0) → (k : ℕ) → get_or xs k 0 ≡ f k
filled-all {room} {f} {xs} {n} F zeros k = by (dec_le n k)
  where
    by : Dec (n ≤ k) → get_or xs k 0 ≡ f k
    by (yes l) = F.past k l ∙ sym (zeros k l)
    by (no m) = F.front k (omega arith)

-- stores from the start on leave the list that was stored, and behind it what stood there
pub from_start : (xs out : List ℕ) → length xs ≤ length out → sets out 0 xs ≡ xs ++ drop (length xs) out
from_start xs out h =
    let e : 0 + length xs ≡ length xs = omega arith in
    sets-eq xs out 0 (omega arith) ∙ ap (λ n. xs ++ drop n out) e

-- one list after another
pub sets-append : (l : List ℕ) (i : ℕ) (xs ys : List ℕ) → sets l i (xs ++ ys) ≡ sets (sets l i xs) (i + length xs) ys
sets-append l i [] ys = simp unary_clauses
sets-append l i (x ∷ xs) ys =
    let e : i + suc (length xs) ≡ suc i + length xs = omega arith in
    rw e (sets-append (set l i x) (suc i) xs ys)
