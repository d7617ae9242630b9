-- What the ranks of the earliest free and the latest held step tell of a table, and which move follows. The laws: `small`, the arrays keep
-- the steps of their tones small; `adds`, adding knows what any rule does; `no-free`, `free-at`, `held_at`, which steps there are;
-- `does-not-fit`, `fitting`, `only-takes`, `exchanges`, `gives_up`, `takes`, which move follows.
-- Assumes nothing.
use mathlib.Core.Path.{◌≡◌, refl, sym, ap, ◌∙◌}
use mathlib.Core.Logic.{if_pos, if_neg}
use mathlib.Core.Option.{Option, none, some}
use Prim.Native.Nat.{ℕ, ◌+◌, ◌-◌, ◌^◌, ◌≤◌, ◌<◌}
use native.Mathlib.Decide.{dec_lt}
use native.Mathlib.Omega.{arith}
use lib.Arith.{digits_div, digits_mod}
use Rattle.sizes.specs.Sizes.{most_tones}
use Rattle.steps.specs.Tones.{Tones, step, Before, before?, Table, ◌!◌, total_power}
use Rattle.steps.specs.Runs.{earliest_free, latest_held, taking, giving_up, fits?, take_if_fits, give_up_or_take, refit_move, refit_step, moved, finished}
use Rattle.steps.proofs.Search.{Earliest, earliest_free-is, Latest, latest_held-is}
use Rattle.line.specs.Arrays.{Arrays, ArraysInRange, Describes}
use Rattle.ranks.specs.Ranks.{rank, no_step, rank_free, rank_held}
use Rattle.ranks.proofs.Sizes.{step-in-range}
use Rattle.ranks.proofs.Order.{rank-before, before-rank}
use Rattle.moves.specs.declared.Rule.{Rule}
use Rattle.moves.specs.declared.Rule.TheVariants.{Add, Refit}
use Rattle.moves.specs.declared.Step.{Step}
use Rattle.moves.specs.Moves.{step_at, Small, Knows, Takes, GivesUp, Exchanges}

-- the steps of tones that arrays in range describe
pub small : {count : ℕ} {A : Arrays} {T : Tones} → ArraysInRange count A → Describes count A T → Small T
small {count} {A} {T} I D = record {
  count_high = omega (arith, D.same_count, I.count_high);
  size_low = λ i b il h. (step-in-range I D i b (inside il) h).0;
  size_high = λ i b il h. (step-in-range I D i b (inside il) h).1;
}
  where
    inside : {i : ℕ} → i < T.count → i < count
    inside l = omega (arith, D.same_count)

-- adding knows what any rule does
pub adds : {r : Rule} {T : Tones} {t : Table} {power earliest latest : ℕ} → Knows r T t power earliest latest → Knows Add T t power earliest 0
adds K = record {
  small = K.small;
  rising = K.rising;
  within = K.within;
  same_power = K.same_power;
  earliest_at = K.earliest_at;
  latest_at = tt;
}

-- a step of this size and tone stands at a rank
record AtRank (at size tone : ℕ) : Type 0 where
  there : at ≡ rank size tone
  tone_high : tone < most_tones
  size_low : 0 < size
  size_high : size < 2 ^ 39

module _ {at size tone : ℕ} (P : AtRank at size tone) where
  tone-at : (step_at at).tone ≡ tone
  tone-at = rw P.there (digits_mod size P.tone_high)

  size-at : (step_at at).size ≡ size
  size-at = rw P.there (digits_div size P.tone_high)

-- what is no tone is none
nothing : (o : Option ℕ) → ((i : ℕ) → ¬ (o ≡ some i)) → o ≡ none
nothing none m = refl
nothing (some i) m = absurd (m i refl)

-- ---- the earliest free step, which every rule knows

module _ {r : Rule} {T : Tones} {t : Table} {power earliest latest : ℕ} (K : Knows r T t power earliest latest) where
  free-ranked : (f : ℕ) → earliest_free T t ≡ some f → AtRank earliest (step T f (t ! f)) f
  free-ranked f e =
      let E : Earliest T t f = rw e at (earliest_free-is T K.rising t) in
      record {
        there = K.earliest_at ∙ ap (rank_free T t) e;
        tone_high = omega (arith, E.free.tone, K.small.count_high);
        size_low = K.small.size_low f (t ! f) E.free.tone E.free.below;
        size_high = K.small.size_high f (t ! f) E.free.tone E.free.below;
      }

  pub no-free : earliest ≡ no_step → earliest_free T t ≡ none
  unfolding no_step
  no-free e = nothing (earliest_free T t) (λ f q. omega (arith, e, free-ranked f q))

  pub free-at : {f : Step} → f ≡ step_at earliest → ¬ (earliest ≡ no_step) → Takes T t f
  free-at {f} e m = rw e (go (earliest_free T t) refl)
    where
      go : (o : Option ℕ) → earliest_free T t ≡ o → Takes T t (step_at earliest)
      go none q = absurd (m (K.earliest_at ∙ ap (rank_free T t) q))
      go (some i) q = let P = free-ranked i q in record { found = q ∙ ap some (sym (tone-at P)); sized = size-at P ∙ rw (tone-at P) }

  module _ {f : Step} (F : Takes T t f) where
    pub does-not-fit : {budget : ℕ} → budget < power + f.size → take_if_fits T budget t (earliest_free T t) ≡ finished
    unfolding take_if_fits
    does-not-fit {budget} l = rw F.found (if_neg (fits? T budget t f.tone) (λ x. omega (arith, K.same_power, F.sized)) _ _)

    pub fitting : {budget : ℕ} → power + f.size ≤ budget → take_if_fits T budget t (earliest_free T t) ≡ moved (taking t f.tone)
    unfolding take_if_fits
    fitting {budget} l = rw F.found (if_pos (fits? T budget t f.tone) (omega (arith, K.same_power, F.sized)) _ _)

-- ---- the latest held step, which re-fitting knows

module _ {T : Tones} {t : Table} {power earliest latest : ℕ} (K : Knows Refit T t power earliest latest) where
  held-ranked : (h : ℕ) → latest_held T t ≡ some h → AtRank latest (step T h (t ! h - 1)) h
  held-ranked h e =
      let L : Latest T t h (t ! h - 1) = rw e at (latest_held-is T K.rising t K.within) in
      let l : t ! h - 1 < T.limit h = omega (arith, L.top, K.within.under h L.tone) in
      record {
        there = K.latest_at ∙ ap (rank_held T t) e;
        tone_high = omega (arith, L.tone, K.small.count_high);
        size_low = K.small.size_low h (t ! h - 1) L.tone l;
        size_high = K.small.size_high h (t ! h - 1) L.tone l;
      }

  no-held : latest ≡ 0 → latest_held T t ≡ none
  no-held e = nothing (latest_held T t) (λ h q. omega (arith, e, held-ranked h q))

  pub held_at : {h : Step} → h ≡ step_at latest → ¬ (latest ≡ 0) → GivesUp T t h
  held_at {h} e m = rw e (go (latest_held T t) refl)
    where
      go : (o : Option ℕ) → latest_held T t ≡ o → GivesUp T t (step_at latest)
      go none q = absurd (m (K.latest_at ∙ ap (rank_held T t) q))
      go (some i) q = let P = held-ranked i q in record { found = q ∙ ap some (sym (tone-at P)); sized = size-at P ∙ rw (tone-at P) }

  -- ---- which move follows

  -- with no step held there is none to give up
  pub only-takes : (budget : ℕ) → latest ≡ 0 → refit_step T budget t ≡ take_if_fits T budget t (earliest_free T t)
  unfolding refit_step refit_move
  only-takes budget e = rw (no-held e)

  module _ {h : Step} (H : GivesUp T t h) where
    -- the order of ranks is the order of steps
    pub exchanges : (budget : ℕ) {f : Step} → f ≡ step_at earliest → earliest < latest
        → (refit_step T budget t ≡ moved (taking (giving_up t h.tone) f.tone)) × Exchanges T t h f
    unfolding refit_step refit_move no_step
    exchanges budget {f} e l =
        let L = held-ranked h.tone H.found in
        let F = free-at K e (λ n. omega (arith, n, L)) in
        let A = free-ranked K f.tone F.found in
        let B : Before T f.tone (t ! f.tone) h.tone (t ! h.tone - 1) = rank-before T A.tone_high L.tone_high (omega (arith, A, L)) in
        (rw (H.found, F.found) (if_pos (before? T f.tone (t ! f.tone) h.tone (t ! h.tone - 1)) B _ _), record { gives_up = H; takes = F; before = B })

    keeps : (budget : ℕ) → latest ≤ earliest → refit_step T budget t ≡ give_up_or_take T budget t h.tone (earliest_free T t)
    unfolding refit_step refit_move
    keeps budget l = rw H.found (go (earliest_free T t) refl)
      where
        not-before : {f : ℕ} → AtRank earliest (step T f (t ! f)) f → AtRank latest (step T h.tone (t ! h.tone - 1)) h.tone
            → ¬ Before T f (t ! f) h.tone (t ! h.tone - 1)
        not-before A L b = omega (arith, A, L, before-rank T A.tone_high L.tone_high b)

        go : (o : Option ℕ) → earliest_free T t ≡ o → refit_move T budget t (some h.tone) o ≡ give_up_or_take T budget t h.tone o
        go none e = refl
        go (some f) e = if_neg (before? T f (t ! f) h.tone (t ! h.tone - 1)) (not-before (free-ranked K f e) (held-ranked h.tone H.found)) _ _

    pub gives_up : {budget : ℕ} → latest ≤ earliest → budget < power → refit_step T budget t ≡ moved (giving_up t h.tone)
    unfolding give_up_or_take
    gives_up {budget} l o = keeps budget l ∙ if_pos (dec_lt budget (total_power T t)) (omega (arith, K.same_power)) _ _

    pub takes : {budget : ℕ} → latest ≤ earliest → power ≤ budget → refit_step T budget t ≡ take_if_fits T budget t (earliest_free T t)
    unfolding give_up_or_take
    takes {budget} l o = keeps budget l ∙ if_neg (dec_lt budget (total_power T t)) (λ x. omega (arith, K.same_power)) _ _
