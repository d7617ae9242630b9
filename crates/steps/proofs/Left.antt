-- How many moves are left. An exchange lowers the latest held step and raises the earliest free one; a table over budget only
-- gives up and one within budget only takes, and the two never mix. So each move uses up one rank, from either end.
-- Assumes nothing.
use mathlib.Core.Path.{◌≡◌}
use mathlib.Core.Logic.{◌⊎◌, inl, inr}
use Prim.Native.Nat.{ℕ, ◌+◌, ◌-◌, ◌≤◌, ◌<◌}
use native.Mathlib.Omega.{arith}
use Rattle.steps.specs.Tones.{Tones, step, Rising, Table, ◌!◌, sum_of_limits, KeepsLimits, Held, Free}
use Rattle.steps.specs.Runs.{taking, giving_up}
use Rattle.steps.specs.Claims.{Efficient}
use Rattle.steps.proofs.Order.{place, sorted-place, size-place}
use Rattle.steps.proofs.Search.{Earliest, Latest}
use Rattle.steps.proofs.Changes.{held-taking, free-giving_up, taking-within, giving_up-within, total-taking, total-giving_up, free-after, held-before, efficient-taking, efficient-giving_up, same_bits, earliest-giving_up}
use Rattle.steps.proofs.Rule.{Move, exchange, give_up, take_one}
use Rattle.steps.proofs.Rank.{rank, rank_lt, rank-under}

module _ (T : Tones) (budget : ℕ) where
  -- every held step is among the first n, every free one among the last n
  pub record Low (n : ℕ) (t : Table) : Type 0 where
    pub lows : {i b : ℕ} → Held T t i b → rank T i b < n

  pub record High (n : ℕ) (t : Table) : Type 0 where
    pub highs : {j c : ℕ} → Free T t j c → sum_of_limits T ≤ rank T j c + n

  -- what a move uses up
  abbrev pub Uses : (n : ℕ) {t u : Table} → Move T budget t u → Type 0
  Uses n {t} (exchange E H q) = Low n t × High n t
  Uses n {t} (give_up H s q) = Low n t
  Uses n {t} (take_one E s q) = High n t

  -- at most n moves are left from t
  pub record Left (n : ℕ) (t : Table) : Type 0 where
    pub uses : {u : Table} (m : Move T budget t u) → Uses n m

module _ (T : Tones) (R : Rising T) (budget : ℕ) where
  lower : {n h b : ℕ} {t u : Table} → KeepsLimits T t → KeepsLimits T u → Latest T t h b → ((j c : ℕ) → Held T u j c → place T j c < place T h b) → Low T budget n t
      → (0 < n) × Low T budget (n - 1) u
  lower {n} {h} {b} {t} {u} w v H before low = (omega (arith, top), record { lows = λ {i} {b = c} x. omega (arith, top, down i c x) })
    where
      top : rank T h b < n
      top = low.lows (record { tone = H.tone; held = omega (arith, H.top) })

      down : (j c : ℕ) → Held T u j c → rank T j c < rank T h b
      down j c x = rank_lt T j c h b x.tone (omega (arith, v.under j x.tone)) (before j c x)

  raise : {n f : ℕ} {t u : Table} → Earliest T t f → ((j c : ℕ) → Free T u j c → place T f (t ! f) < place T j c) → High T budget n t → (0 < n) × High T budget (n - 1) u
  raise {n} {f} {t} {u} E after high =
      (omega (arith, bottom, rank-under T f (t ! f) E.free.tone E.free.below), record { highs = λ {j} {c} x. omega (arith, bottom, up j c x) })
    where
      bottom : sum_of_limits T ≤ rank T f (t ! f) + n
      bottom = high.highs E.free

      up : (j c : ℕ) → Free T u j c → rank T f (t ! f) < rank T j c
      up j c x = rank_lt T f (t ! f) j c E.free.tone E.free.below (after j c x)

  -- an efficient table has no exchange left
  pub no-exchange : {t : Table} {f h b : ℕ} → Efficient T t → Earliest T t f → Latest T t h b → ¬ (place T f (t ! f) < place T h b)
  no-exchange {b} s E H q = omega (arith, sorted-place T s {b = b} (record { tone = H.tone; held = omega (arith, H.top) }) E.free)

  -- a move keeps the limits, and leaves one move fewer
  pub one_fewer : {n : ℕ} {t u : Table} → KeepsLimits T t → Left T budget n t → Move T budget t u → (0 < n) × KeepsLimits T u × Left T budget (n - 1) u
  one_fewer {n} {t} w l (exchange {f} {h} {b} E H q) = (low.0, v, record { uses = λ {u} m. any u m })
    where
      s : Table
      s = giving_up t h

      ws : KeepsLimits T s
      ws = giving_up-within T w H.tone H.top

      ES : Earliest T s f
      ES = earliest-giving_up T R w E H q

      v : KeepsLimits T (taking s f)
      v = taking-within T ws ES.free

      before : (j c : ℕ) → Held T (taking s f) j c → place T j c < place T h b
      before j c x = go (held-taking T ws ES.free x)
        where
          go : Held T s j c ⊎ ((j ≡ f) × (c ≡ s ! f)) → place T j c < place T h b
          go (inl y) = held-before T R w H y
          go (inr e) = rw (e.0, e.1, same_bits T R w E H q) q

      low : (0 < n) × Low T budget (n - 1) (taking s f)
      low = lower w v H before (l.uses (exchange E H q)).0

      high : (0 < n) × High T budget (n - 1) (taking s f)
      high = raise E (λ j c x. rw (same_bits T R w E H q) at (free-after T R ws ES x)) (l.uses (exchange E H q)).1

      any : (u : Table) (m : Move T budget (taking s f) u) → Uses T budget (n - 1) m
      any u (exchange E' H' q') = (low.1, high.1)
      any u (give_up H' s' q') = low.1
      any u (take_one E' s' q') = high.1
  one_fewer {n} {t} w l (give_up {h} {b} H s q) = (low.0, v, record { uses = λ {u} m. rest u m })
    where
      v : KeepsLimits T (giving_up t h)
      v = giving_up-within T w H.tone H.top

      low : (0 < n) × Low T budget (n - 1) (giving_up t h)
      low = lower w v H (λ j c x. held-before T R w H x) (l.uses (give_up H s q))

      -- a step free now is no smaller than the one given up
      no-smaller : (f c : ℕ) → Free T (giving_up t h) f c → step T h b ≤ step T f c
      no-smaller f c x = size-place T h b f c x.tone (go (free-giving_up T w H.tone H.top x))
        where
          go : Free T t f c ⊎ ((f ≡ h) × (c ≡ b)) → place T h b ≤ place T f c
          go (inl y) = omega (arith, sorted-place T s {b = b} (record { tone = H.tone; held = omega (arith, H.top) }) y)
          go (inr e) = rw (e.0, e.1) (omega arith)

      rest : (u : Table) (m : Move T budget (giving_up t h) u) → Uses T budget (n - 1) m
      rest u (exchange E' H' q') = absurd (no-exchange (efficient-giving_up T R w H s) E' H' q')
      rest u (give_up H' s' q') = low.1
      rest u (take_one {f} E' s' q') =
          absurd (omega (arith, total-giving_up T R w H.tone H.top, no-smaller f (giving_up t h ! f) E'.free))
  one_fewer {n} {t} w l (take_one {f} E s q) = (high.0, v, record { uses = λ {u} m. rest u m })
    where
      v : KeepsLimits T (taking t f)
      v = taking-within T w E.free

      high : (0 < n) × High T budget (n - 1) (taking t f)
      high = raise E (λ j c x. free-after T R w E x) (l.uses (take_one E s q))

      rest : (u : Table) (m : Move T budget (taking t f) u) → Uses T budget (n - 1) m
      rest u (exchange E' H' q') = absurd (no-exchange (efficient-taking T R w E s) E' H' q')
      rest u (give_up H' s' q') = absurd (omega (arith, total-taking T R w E.free))
      rest u (take_one E' s' q') = high.1

  -- from any table within the limits at most as many moves are left as the limits add up to
  pub at-most-limits : {t : Table} → KeepsLimits T t → Left T budget (sum_of_limits T) t
  at-most-limits {t} w = record { uses = λ {u} m. any u m }
    where
      low : Low T budget (sum_of_limits T) t
      low = record { lows = λ {i} {b} x. rank-under T i b x.tone (omega (arith, w.under i x.tone)) }

      high : High T budget (sum_of_limits T) t
      high = record { highs = λ {j} {c} x. omega arith }

      any : (u : Table) (m : Move T budget t u) → Uses T budget (sum_of_limits T) m
      any u (exchange E' H' q') = (low, high)
      any u (give_up H' s' q') = low
      any u (take_one E' s' q') = high
