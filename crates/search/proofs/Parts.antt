-- The least of some of the ranks, and how the scan puts eight tones' together.
-- Assumes nothing.
use mathlib.Core.Path.{◌≡◌, refl, ◌∙◌}
use mathlib.Core.List.{List}
use mathlib.Core.Logic.{◌≢◌}
use Prim.Native.Nat.{ℕ, ◌+◌, ◌*◌, ◌≤◌, ◌<◌, min}
use native.Mathlib.Decide.{dec_lt}
use native.Mathlib.Omega.{arith}
use lib.ListN.{get_or}
use Rattle.sizes.specs.Sizes.{most_tones}
use Rattle.ranks.specs.Ranks.{no_step, NoneFrom, Among, LeastOf}

-- the lesser of the ranks of two tones
abbrev lesser_at : List ℕ → (i j : ℕ) → ℕ
lesser_at ranks i j = min (get_or ranks i 0) (get_or ranks j 0)

-- the least of the ranks from tone m on, below tone n
pub record Part (ranks : List ℕ) (m n r : ℕ) : Type 0 where
  pub low : (i : ℕ) → m ≤ i → i < n → r ≤ get_or ranks i 0
  pub among : r ≢ no_step → Among n ranks r

-- the tones below i are passed; the number of tones at most is a multiple of eight, so eight more are there while one is
pub record Passed (ranks : List ℕ) (least i : ℕ) : Type 0 where
  pub turns : ℕ
  pub eights : i ≡ 8 * turns
  pub within : i ≤ most_tones
  pub part : Part ranks 0 i least

module _ {ranks : List ℕ} where
  pub none_yet : Part ranks 0 0 no_step
  none_yet = record { low = λ i h l. absurd (omega arith); among = λ m. absurd (m refl) }

  one : (m n : ℕ) → n ≡ m + 1 → Part ranks m n (get_or ranks m 0)
  one m n e = record {
    low = λ i h l. let s : i ≡ m = omega arith in rw s (omega arith);
    among = λ q. record { tone = m; inside = omega arith; there = refl };
  }

  -- two parts, one after the other
  both : {m k n a b : ℕ} → Part ranks m k a → Part ranks k n b → k ≤ n → Part ranks m n (min a b)
  both {m} {k} {n} {a} {b} P Q h = by (dec_lt b a)
    where
      lower : (r : ℕ) → r ≤ a → r ≤ b → (i : ℕ) → m ≤ i → i < n → r ≤ get_or ranks i 0
      lower r ra rb i g l = go (dec_lt i k)
        where
          go : Dec (i < k) → r ≤ get_or ranks i 0
          go (yes s) = omega (arith, P.low i g s)
          go (no s) = omega (arith, Q.low i (omega arith) l)

      wider : {r : ℕ} → Among k ranks r → Among n ranks r
      wider A = record { tone = A.tone; inside = omega (arith, A.inside); there = A.there }

      by : Dec (b < a) → Part ranks m n (min a b)
      by (yes s) = let e : min a b ≡ b = omega arith in rw e (record { low = lower b (omega arith) (omega arith); among = Q.among })
      by (no s) = let e : min a b ≡ a = omega arith in rw e (record { low = lower a (omega arith) (omega arith); among = λ q. wider (P.among q) })

  -- two tones side by side
  two : (i j n : ℕ) → j ≡ i + 1 → n ≡ i + 2 → Part ranks i n (lesser_at ranks i j)
  two i j n e f = both (one i j e) (one j n (omega arith)) (omega arith)

  -- a turn of the scan
  pub eight-more : {i r : ℕ} → Part ranks 0 i r
      → Part ranks 0 (i + 8)
      (min r (min (min (lesser_at ranks i (i + 1)) (lesser_at ranks (i + 2) (i + 3))) (min (lesser_at ranks (i + 4) (i + 5)) (lesser_at ranks (i + 6) (i + 7)))))
  eight-more {i} P =
      both P
      (both
      (both (two i (i + 1) (i + 2) refl refl) (two (i + 2) (i + 3) (i + 4) (omega arith) (omega arith)) (omega arith))
      (both (two (i + 4) (i + 5) (i + 6) (omega arith) (omega arith)) (two (i + 6) (i + 7) (i + 8) (omega arith) (omega arith)) (omega arith))
      (omega arith))
      (omega arith)

  -- from tone n on there is no step, so the scan may go past it
  pub part-least : {m n r : ℕ} → Part ranks 0 m r → n ≤ m → m ≤ most_tones → NoneFrom n ranks → LeastOf n ranks r
  part-least {m} {n} {r} P h l N = record {
    low = λ i q. P.low i (omega arith) (omega arith);
    among = λ q. go q (P.among q) (dec_lt (P.among q).tone n);
  }
    where
      go : r ≢ no_step → (A : Among m ranks r) → Dec (A.tone < n) → Among n ranks r
      go q A (yes s) = record { tone = A.tone; inside = s; there = A.there }
      go q A (no s) = absurd (q (A.there ∙ N.none_from A.tone (omega arith) (omega (arith, A.inside))))
