-- What a move does to a running table. The laws: `inside`, a tone of the table is one of the arrays'; `followed`, `both-followed`, the kept ranks
-- follow a move; `took`, `gave-up`, `exchanges`, what each move leads to; `next-free`, `last-held`, `held-and-free`, the table allows the move that
-- is called for; `knows`, what the code knows of the table that the running table stands for; `power-high`, the total leaves room for a step;
-- `can-take`, `can-give-up`, `can-exchange`, the code may make the move that the table allows.
-- Assumes nothing.
use mathlib.Core.List.{List}
use mathlib.Core.Path.{◌≡◌, sym, ap, ◌∙◌}
use Prim.Native.Nat.{ℕ, suc, ◌-◌, ◌^◌, ◌<◌}
use native.Mathlib.Decide.{ℕ_discrete}
use native.Mathlib.Omega.{arith}
use lib.ListN.{length, get_or, set}
use lib.Seq.{get_or-set_same, get_or-set_other}
use Rattle.sizes.specs.Sizes.{most_tones}
use Rattle.steps.specs.Tones.{Tones, step, Table, ◌!◌, KeepsLimits}
use Rattle.steps.specs.Runs as rule
use Rattle.steps.proofs.Search.{Earliest, earliest_free-is, Latest, latest_held-is}
use Rattle.steps.proofs.Changes.{taking-within, total-taking, bits-taking, giving_up-within, total-giving_up, bits-giving_up, same_bits, earliest-giving_up}
use Rattle.steps.proofs.Order.{before-place}
use Rattle.line.specs.Arrays.{Arrays, steps_in, ArraysInRange, StandsFor}
use Rattle.line.proofs.Arrays.{stands-under, bits-high}
use Rattle.ranks.specs.Ranks.{free_rank, held_rank, rank_free}
use Rattle.ranks.proofs.Kept.{ranked-set}
use Rattle.moves.specs.declared.Rule.{Rule}
use Rattle.moves.specs.declared.Step.{Step}
use Rattle.moves.specs.Moves.{LatestAt, Knows, Takes, GivesUp, Exchanges}
use Rattle.moves.proofs.Named.{small}
use Rattle.running.specs.declared.Running.{Running}
use Rattle.running.specs.declared.Totals.{Totals}
use Rattle.running.specs.Running.{Stands, Runnable, taken, given_up, CanTake, CanGiveUp, NextFree, LastHeld, Leads, RanksFollow}

-- ---- one tone's bits change

module _ {count : ℕ} {A : Arrays} {bits : List ℕ} {T : Tones} {t : Table} (S : StandsFor count A bits T t) where
  pub inside : {i : ℕ} → i < T.count → i < count
  inside l = omega (arith, S.describes.same_count)

  -- the same bits stored in both
  stored : (i v : ℕ) → i < T.count → i < length bits → KeepsLimits T (set t i v) → StandsFor count A (set bits i v) T (set t i v)
  stored i v il bl K = record { describes = S.describes; rising = S.rising; within = K; same_bits = λ j jl. by j jl (ℕ_discrete j i) }
    where
      by : (j : ℕ) → j < count → Dec (j ≡ i) → set t i v ! j ≡ get_or (set bits i v) j 0
      by j jl (yes e) = rw e (get_or-set_same t i v 0 (omega (arith, S.within.sized)) ∙ sym (get_or-set_same bits i v 0 bl))
      by j jl (no m) = get_or-set_other t i j v 0 m ∙ S.same_bits j jl ∙ sym (get_or-set_other bits i j v 0 m)

-- the ranks of a tone are stored with its bits
pub followed : {A : Arrays} {r : Running} {free held new_free new_held : List ℕ} (i b : ℕ) (s : Totals) → i < most_tones → length r.bits ≡ most_tones
    → (length free ≡ most_tones) × (length held ≡ most_tones)
    → new_free ≡ set free i (free_rank i (steps_in A i) b) → new_held ≡ set held i (held_rank i (steps_in A i) b)
    → RanksFollow A r (record { bits = set r.bits i b; totals = s }) free held new_free new_held (λ n. i < n)
followed i b s l n m f h = record { still_ranked = λ count q R. rw (f, h) (ranked-set R i b q (omega arith) (omega arith) (omega arith)) }

-- ---- what each move leads to

module _ {count : ℕ} {A : Arrays} {r : Running} {T : Tones} {t : Table} (S : Stands count A r T t) where
  take-stands : {f : Step} → f.tone < length r.bits → NextFree T t f → Stands count A (taken r f) T (rule.taking t f.tone)
  take-stands {f} l F =
      let B = S.table in
      let il = F.free.tone in
      record {
        table = rw (← B.same_bits f.tone (inside B il)) (stored B f.tone (suc (t ! f.tone)) il l (taking-within T B.within F.free));
        sums = record {
          same_bits = omega (arith, S.sums.same_bits, bits-taking T B.rising B.within F.free);
          same_power = omega (arith, F.sized, S.sums.same_power, total-taking T B.rising B.within F.free);
        };
      }

  give-up-stands : {h : Step} → h.tone < length r.bits → LastHeld T t h → Stands count A (given_up r h) T (rule.giving_up t h.tone)
  give-up-stands {h} l H =
      let B = S.table in
      let il = H.held.tone in
      let top : t ! h.tone ≡ suc (t ! h.tone - 1) = omega (arith, H.held.held) in
      record {
        table = rw (← B.same_bits h.tone (inside B il)) (stored B h.tone (t ! h.tone - 1) il l (giving_up-within T B.within il top));
        sums = record {
          same_bits = omega (arith, S.sums.same_bits, bits-giving_up T B.rising B.within il top);
          same_power = omega (arith, H.sized, S.sums.same_power, total-giving_up T B.rising B.within il top);
        };
      }

module _ {A : Arrays} {r : Running} where
  pub took : {f : Step} → f.tone < length r.bits → Leads A r (taken r f) (λ T t. NextFree T t f) (λ t. rule.taking t f.tone)
  took l = record { stands = λ count T t S F. take-stands S l F }

  pub gave-up : {h : Step} → h.tone < length r.bits → Leads A r (given_up r h) (λ T t. LastHeld T t h) (λ t. rule.giving_up t h.tone)
  gave-up l = record { stands = λ count T t S H. give-up-stands S l H }

-- one after the other
module _ {A : Arrays} {old fewer r : Running} where
  pub exchanges : {h f : Step} → Leads A old fewer (λ T t. LastHeld T t h) (λ t. rule.giving_up t h.tone)
      → Leads A fewer r (λ T t. NextFree T t f) (λ t. rule.taking t f.tone)
      → Leads A old r (λ T t. LastHeld T t h × NextFree T (rule.giving_up t h.tone) f) (λ t. rule.taking (rule.giving_up t h.tone) f.tone)
  exchanges {h} G K = record { stands = λ count T t S B. K.stands count T (rule.giving_up t h.tone) (G.stands count T t S B.0) B.1 }

  pub both-followed : {free held mid_free mid_held new_free new_held : List ℕ} {i j : ℕ} → RanksFollow A old fewer free held mid_free mid_held (λ n. i < n)
      → RanksFollow A fewer r mid_free mid_held new_free new_held (λ n. j < n) → RanksFollow A old r free held new_free new_held (λ n. (i < n) × (j < n))
  both-followed G K = record { still_ranked = λ count q R. K.still_ranked count q.1 (G.still_ranked count q.0 R) }

-- ---- the table allows the move that is called for

module _ {count : ℕ} {A : Arrays} {r : Running} {T : Tones} {t : Table} (S : Stands count A r T t) where
  earliest : {f : Step} → Takes T t f → Earliest T t f.tone
  earliest N = rw N.found at (earliest_free-is T S.table.rising t)

  latest : {h : Step} → GivesUp T t h → Latest T t h.tone (t ! h.tone - 1)
  latest N = rw N.found at (latest_held-is T S.table.rising t S.table.within)

  pub next-free : {f : Step} → Takes T t f → NextFree T t f
  next-free N = record { free = (earliest N).free; sized = N.sized }

  pub last-held : {h : Step} → GivesUp T t h → LastHeld T t h
  last-held N = let L = latest N in record { held = record { tone = L.tone; held = omega (arith, L.top) }; sized = N.sized }

  -- once the later step is given up, the earlier one is free still, and of the same size
  pub held-and-free : {h f : Step} → Exchanges T t h f → LastHeld T t h × NextFree T (rule.giving_up t h.tone) f
  held-and-free {h} {f} N =
      let B = S.table in
      let E = earliest N.takes in
      let L = latest N.gives_up in
      let q = before-place T E.free.tone N.before in (
        last-held N.gives_up,
        record {
          free = (earliest-giving_up T B.rising B.within E L q).free;
          sized = N.takes.sized ∙ ap (step T f.tone) (sym (same_bits T B.rising B.within E L q));
        },
      )

  pub knows : ArraysInRange count A → {by : Rule} {first last : ℕ} → first ≡ rank_free T t (rule.earliest_free T t) → LatestAt by T t last
      → Knows by T t r.totals.power first last
  knows I e l = record {
    small = small I S.table.describes;
    rising = S.table.rising;
    within = S.table.within;
    same_power = S.sums.same_power;
    earliest_at = e;
    latest_at = l;
  }

-- ---- what the code may do

module _ {A : Arrays} {r : Running} (R : Runnable (length A) A r) where
  pub power-high : r.totals.power < 2 ^ 62
  power-high = omega (arith, R.stands.sums.same_power, R.bounded R.table R.stands.table.within)

  pub can-take : {f : Step} → NextFree R.tones R.table f → CanTake A r f
  can-take {f} F =
      let S = R.stands.table in
      let l = inside S F.free.tone in
      record {
        in_range = R.in_range;
        tone = l;
        free = omega (arith, F.free.below, S.same_bits f.tone l, S.describes.same_limit f.tone l);
        bits_bounded = omega (arith, R.stands.sums.same_bits, bits-high S R.in_range);
        power_bounded = omega (
          arith,
          F.sized,
          R.stands.sums.same_power,
          R.bounded _ (taking-within R.tones S.within F.free),
          total-taking R.tones S.rising S.within F.free,
        );
      }

  pub can-give-up : {h : Step} → LastHeld R.tones R.table h → CanGiveUp A r h
  can-give-up {h} H =
      let S = R.stands.table in
      let l = inside S H.held.tone in
      let top : R.table ! h.tone ≡ suc (R.table ! h.tone - 1) = omega (arith, H.held.held) in
      record {
        in_range = R.in_range;
        tone = l;
        held = omega (arith, H.held.held, S.same_bits h.tone l);
        under = (stands-under S).under h.tone l;
        bits_bounded = omega (arith, R.stands.sums.same_bits, bits-giving_up R.tones S.rising S.within H.held.tone top);
        power_bounded = omega (arith, H.sized, R.stands.sums.same_power, total-giving_up R.tones S.rising S.within H.held.tone top);
      }

-- after the later step of an exchange is given up
pub can-exchange : {A : Arrays} {r : Running} (R : Runnable (length A) A r) {h f : Step} → length r.bits ≡ most_tones
    → LastHeld R.tones R.table h × NextFree R.tones (rule.giving_up R.table h.tone) f → CanTake A (given_up r h) f
can-exchange {r = r} R {h} n B =
    let S = R.stands in
    let l : h.tone < length r.bits = omega (arith, inside S.table B.0.held.tone, R.in_range.count_high) in
    can-take (record { tones = R.tones; table = _; in_range = R.in_range; stands = give-up-stands S l B.0; bounded = R.bounded }) B.1
