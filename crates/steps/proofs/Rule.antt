-- What a step of each rule does: one of three moves, each with what it rests on, or nothing, in a final table.
-- Assumes nothing.
use mathlib.Core.Path.{◌≡◌, ap}
use mathlib.Core.Logic.{ite}
use mathlib.Core.Option.{Option, none, some}
use Prim.Native.Nat.{ℕ, ◌+◌, ◌-◌, ◌≤◌, ◌<◌}
use native.Mathlib.Decide.{dec_lt}
use native.Mathlib.Omega.{arith}
use lib.ListN.{get_or-replicate}
use Rattle.steps.specs.Tones.{Tones, step, Rising, Before, before?, Table, ◌!◌, total_power, no_bits, KeepsLimits, KeepsBudget}
use Rattle.steps.specs.Runs.{earliest_free, latest_held, taking, giving_up, Answer, moved, finished, fits?, take_if_fits, give_up_or_take, refit_move, add_step, refit_step}
use Rattle.steps.specs.Claims.{Efficient, Final}
use Rattle.steps.proofs.Sums.{sum-eq}
use Rattle.steps.proofs.Order.{place, before-place, place-before, place-lt, size-place}
use Rattle.steps.proofs.Search.{First, Last, Earliest, Latest, not_after, earliest_free-is, latest_held-is}

-- what holds on both sides of a test holds of what the test picks
by-test : {P : Type 0} (C : Answer → Type 0) (d : Dec P) {a b : Answer} → (P → C a) → (¬ P → C b) → C (ite d a b)
by-test C (yes p) f g = f p
by-test C (no m) f g = g m

module _ (T : Tones) (budget : ℕ) where
  pub data Move (t : Table) : Table → Type 0 where
    exchange : {f h b : ℕ} → Earliest T t f → Latest T t h b → place T f (t ! f) < place T h b → Move t (taking (giving_up t h) f)
    give_up : {h b : ℕ} → Latest T t h b → Efficient T t → budget < total_power T t → Move t (giving_up t h)
    take_one : {f : ℕ} → Earliest T t f → Efficient T t → total_power T t + step T f (t ! f) ≤ budget → Move t (taking t f)

  abbrev pub Did : Table → Answer → Type 0
  Did t finished = Final T budget t
  Did t (moved u) = Move t u

module _ (T : Tones) (R : Rising T) (budget : ℕ) where
  module _ {t : Table} (w : KeepsLimits T t) where
    take_if_fits-is : Efficient T t → KeepsBudget T budget t → (o : Option ℕ) → First T t o → Did T budget t (take_if_fits T budget t o)
    unfolding take_if_fits
    take_if_fits-is s fits none h = record { within = w; efficient = s; tight = record { fits = fits; full = λ {j} {c} x. absurd (h j c x) } }
    take_if_fits-is s fits (some f) E =
        by-test (Did T budget t) (fits? T budget t f) (λ q. take_one E s (omega arith)) (λ m. record {
          within = w;
          efficient = s;
          tight = record { fits = fits; full = λ {j} {c} x. omega (arith, size-place T f (t ! f) j c x.tone (E.first x)) };
        })

    give_up_or_take-is : {h b : ℕ} → Latest T t h b → Efficient T t → (o : Option ℕ) → First T t o → Did T budget t (give_up_or_take T budget t h o)
    unfolding give_up_or_take
    give_up_or_take-is {h} H s o f =
        by-test (Did T budget t) (dec_lt budget (total_power T t)) (λ q. give_up H s (omega arith)) (λ m. take_if_fits-is s (omega arith) o f)

    refit_move-is : KeepsBudget T budget (no_bits T) → (h f : Option ℕ) → Last T t h → First T t f → Did T budget t (refit_move T budget t h f)
    unfolding refit_move
    refit_move-is base none f H F =
        take_if_fits-is (record { sorted = λ {i} {b} x y. absurd (H i b x) }) (omega (arith, blank)) f F
      where
        zeros : (i : ℕ) → i < T.count → t ! i ≡ no_bits T ! i
        zeros i il = go (dec_lt 0 (t ! i))
          where
            go : Dec (0 < t ! i) → t ! i ≡ no_bits T ! i
            go (yes q) = absurd (H i 0 (record { tone = il; held = q }))
            go (no m) = omega (arith, get_or-replicate {A = ℕ} T.count i 0 0 il)

        blank : total_power T t ≡ total_power T (no_bits T)
        blank = sum-eq T.count (λ i. T.power i (t ! i)) (λ i. T.power i (no_bits T ! i)) (λ i il. ap (T.power i) (zeros i il))
    refit_move-is base (some h) none H F =
        give_up_or_take-is H (record { sorted = λ {i} {b} {j} {c} x y. absurd (F j c y) }) none F
    refit_move-is base (some h) (some f) H F =
        by-test (Did T budget t) (before? T f (t ! f) h (t ! h - 1)) (λ q. exchange F H (before-place T F.free.tone q))
        (λ m. give_up_or_take-is H (record { sorted = λ {i} {b} {j} {c} x y. place-before T i b j c y.tone (omega (arith, H.last x, F.first y, between m)) }) (some f) F)
      where
        -- h comes before f where f does not come before h
        between : ¬ Before T f (t ! f) h (t ! h - 1) → place T h (t ! h - 1) < place T f (t ! f)
        between m =
            place-lt T R h (t ! h - 1) f (t ! f) H.tone F.free.tone F.free.below
            (λ e. omega (arith, ap (◌!◌ t) e, H.top)) (not_after T H.tone F.free.tone m)

  pub refit_step-is : {t : Table} → KeepsLimits T t → KeepsBudget T budget (no_bits T) → Did T budget t (refit_step T budget t)
  unfolding refit_step
  refit_step-is {t} w base = refit_move-is w base (latest_held T t) (earliest_free T t) (latest_held-is T R t w) (earliest_free-is T R t)

  pub add_step-is : {t : Table} → KeepsLimits T t → Efficient T t → KeepsBudget T budget t → Did T budget t (add_step T budget t)
  unfolding add_step
  add_step-is {t} w s fits = take_if_fits-is w s fits (earliest_free T t) (earliest_free-is T R t)
