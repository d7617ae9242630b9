-- Ranks kept in an array: they are filled in tone by tone, and they stay right when one tone's bits change.
-- Assumes nothing.
use mathlib.Core.Path.{◌≡◌, ◌∙◌}
use mathlib.Core.List.{List}
use mathlib.Core.Logic.{◌≢◌}
use Prim.Native.Nat.{ℕ, ◌+◌, ◌<◌}
use native.Mathlib.Decide.{ℕ_discrete}
use native.Mathlib.Omega.{arith}
use borrow.Author.Count.{below_more}
use lib.ListN.{length, get_or, set}
use lib.Seq.{get_or-set_same, get_or-set_other}
use Rattle.line.specs.Arrays.{Arrays, steps_in}
use Rattle.ranks.specs.Ranks.{free_rank, held_rank, free_rank_at, held_rank_at, NoneFrom, Keeps, Ranked}

-- a store below tone n leaves the tones from n on without a step
none-set : {n i : ℕ} {ranks : List ℕ} → NoneFrom n ranks → i < n → (v : ℕ) → NoneFrom n (set ranks i v)
none-set {n} {i} {ranks} N h v = record { none_from = λ j l b. get_or-set_other ranks i j v 0 (λ e. omega arith) ∙ N.none_from j l b }

-- ---- filled in tone by tone

-- the ranks of the first n tones are stored, and from tone count on there is no step
pub record Stored (count n : ℕ) (rank_of : ℕ → ℕ) (ranks : List ℕ) : Type 0 where
  pub front : (i : ℕ) → i < n → get_or ranks i 0 ≡ rank_of i
  pub past : NoneFrom count ranks

module _ {count : ℕ} {rank_of : ℕ → ℕ} {ranks : List ℕ} where
  pub stored-none : NoneFrom count ranks → Stored count 0 rank_of ranks
  stored-none N = record { front = λ i l. absurd (omega arith); past = N }

  pub stored_more : {n : ℕ} → Stored count n rank_of ranks → n < count → n < length ranks → Stored count (n + 1) rank_of (set ranks n (rank_of n))
  stored_more {n} F l inside = record {
    front = below_more _ n (λ k q. get_or-set_other ranks n k _ 0 (λ e. omega arith) ∙ F.front k q) (get_or-set_same ranks n _ 0 inside);
    past = none-set F.past l _;
  }

  pub stored-all : {n : ℕ} → Stored count n rank_of ranks → n ≡ count → Keeps count rank_of ranks
  stored-all F e = record { kept = λ i l. F.front i (omega arith); past = F.past }

-- ---- one tone's bits change

-- one tone's rank is stored anew, and those of the others are as they were
keeps-set : {n i : ℕ} {f g : ℕ → ℕ} {ranks : List ℕ} → Keeps n f ranks → i < n → i < length ranks → ((j : ℕ) → j ≢ i → f j ≡ g j)
    → Keeps n g (set ranks i (g i))
keeps-set {n} {i} {f} {g} {ranks} K h inside others =
    record { kept = λ j l. go j l (ℕ_discrete j i); past = none-set K.past h (g i) }
  where
    go : (j : ℕ) → j < n → Dec (j ≡ i) → get_or (set ranks i (g i)) j 0 ≡ g j
    go j l (yes e) = rw e (get_or-set_same ranks i (g i) 0 inside)
    go j l (no m) = get_or-set_other ranks i j (g i) 0 m ∙ K.kept j l ∙ others j m

pub ranked-set : {count : ℕ} {A : Arrays} {bits free held : List ℕ} → Ranked count A bits free held
    → (tone b : ℕ) → tone < count → tone < length bits → tone < length free → tone < length held
    → Ranked count A (set bits tone b)
    (set free tone (free_rank tone (steps_in A tone) b))
    (set held tone (held_rank tone (steps_in A tone) b))
ranked-set {count} {A} {bits} {free} {held} R tone b l in_bits in_free in_held =
    let u = set bits tone b in
    let new = get_or-set_same bits tone b 0 in_bits in
    record {
      free_ranks = rw new at (keeps-set {g = free_rank_at A u} R.free_ranks l in_free (λ j m. rw (get_or-set_other bits tone j b 0 m)));
      held_ranks = rw new at (keeps-set {g = held_rank_at A u} R.held_ranks l in_held (λ j m. rw (get_or-set_other bits tone j b 0 m)));
    }
