-- The outcomes of the loadings of tones: which one each test of the code leads to, with its answer, that in the paper's numbers, and its
-- buffer.
-- Assumes nothing.
use mathlib.Core.List.{List, ◌++◌}
use mathlib.Core.Logic.{if_pos, if_neg}
use mathlib.Core.Option.{none, some}
use mathlib.Core.Path.{◌≡◌, refl, ap, ◌∙◌}
use Prim.Native.Nat.{ℕ, ◌*◌, ◌≤◌, ◌<◌}
use native.Mathlib.Decide.{ℕ_discrete}
use native.Mathlib.Omega.{arith}
use borrow.Author.Tests.{lt-ltb, le-ltb, eq-eqb, ne_eqb}
use lib.ListN.{length, drop}
use Rattle.std.specs.Prelude.{Some, None, Result, Ok, Err}
use Rattle.sizes.specs.Sizes.{bytes_a_tone}
use Rattle.steps.specs.Tones.{Tones, Table, no_bits, total_bits}
use Rattle.steps.specs.Runs.{Ran, add_step, refit_step, run, most_bits, carrying}
use Rattle.line.specs.Arrays.{Arrays}
use Rattle.refusals.specs.declared.Refusal.{Refusal}
use Rattle.refusals.specs.declared.Refusal.TheVariants.{DestinationTooSmall, StartLengthWrong, StartAboveLimit, TargetNotCarried}
use Rattle.running.specs.declared.Running.{Running}
use Rattle.running.specs.declared.Totals.{Totals}
use Rattle.running.specs.Running.{Stands}
use Rattle.starts.specs.Starts.{first_above}
use Rattle.tables.specs.Tables.{table_bytes, WritesTable}
use Rattle.tables.proofs.Entries.{table-written}
use Rattle.loadings.specs.declared.Refitted.{Refitted}
use Rattle.loadings.specs.Loads.{Loading, loaded, turned_down, most_on, on_target, target_on, Loadable, LoadsAs, totals_of, load_answer, load_outcome, load_numbers, after_loading}
use Rattle.loadings.specs.Refits.{refit_up_to, RefitsAs, refit_answer, refit_outcome, refit_numbers}
use Rattle.loadings.proofs.Runs.{target_run}

-- ---- answer, numbers and buffer of an outcome

load-numbers : (x : Loading) → load_numbers (load_answer x) ≡ load_outcome x
load-numbers (loaded T r) = refl
load-numbers (turned_down q) = refl

refit-numbers : (x : Loading) → refit_numbers (refit_answer x) ≡ refit_outcome x
refit-numbers (loaded T r) = refl
refit-numbers (turned_down q) = refl

module _ (on : (room : ℕ) → Loading) (old : List ℕ) where
  loads-as : {r : Result Totals Refusal} {new : List ℕ} → r ≡ load_answer (on (length old)) → new ≡ after_loading (on (length old)) old → LoadsAs r old new on
  loads-as a b = record { answer = a; numbers = ap load_numbers a ∙ load-numbers (on (length old)); bytes = b }

  refits-as : {r : Result Refitted Refusal} {new : List ℕ} → r ≡ refit_answer (on (length old)) → new ≡ after_loading (on (length old)) old → RefitsAs r old new on
  refits-as a b = record { answer = a; numbers = ap refit_numbers a ∙ refit-numbers (on (length old)); bytes = b }

  pub load-refused : {r : Refusal} → on (length old) ≡ turned_down r → LoadsAs (Err r) old old on
  load-refused e = loads-as (simp e) (simp e)

  pub refit-refused : {r : Refusal} → on (length old) ≡ turned_down r → RefitsAs (Err r) old old on
  refit-refused e = refits-as (simp e) (simp e)

-- the running table of a run, and the buffer that it was written to
pub record Wrote (count : ℕ) (A : Arrays) (T : Tones) (r : Running) (t : Table) (old new : List ℕ) : Type 0 where
  pub stands : Stands count A r T t
  pub room : bytes_a_tone * count ≤ length old
  pub written : WritesTable count A r.bits old new

module _ {count : ℕ} {A : Arrays} {T : Tones} {ran : Ran} {r : Running} {old new : List ℕ} (W : Wrote count A T r ran.table old new)
    (on : (room : ℕ) → Loading) (e : on (length old) ≡ loaded T ran) where
  buffer : new ≡ table_bytes T ran.table ++ drop (bytes_a_tone * T.count) old
  buffer =
      W.written T ran.table W.stands.table
      ∙ table-written T ran.table old (omega (arith, W.room, W.stands.table.describes.same_count))

  totals : r.totals ≡ totals_of T ran.table
  totals = rw (W.stands.sums.same_bits, W.stands.sums.same_power) refl

  pub load-done : LoadsAs (Ok r.totals) old new on
  load-done = loads-as on old (simp e (ap Ok totals)) (simp e buffer)

  pub refit-done : {moves : ℕ} → moves ≡ ran.moves → RefitsAs (Ok (record { totals = r.totals; moves = moves })) old new on
  refit-done m = refits-as on old (simp (e, m) (ap (λ (s : Totals). Ok (record { totals = s; moves = ran.moves })) totals)) (simp e buffer)

-- ---- which outcome it is, for so many tones in a buffer of so many bytes

module _ {count budget : ℕ} {A : Arrays} {T : Tones} (L : Loadable count budget A T) {room : ℕ} where
  short : room < bytes_a_tone * count → room < bytes_a_tone * T.count
  short h = omega (arith, L.describes.same_count)

  fits : bytes_a_tone * count ≤ room → bytes_a_tone * T.count ≤ room
  fits h = omega (arith, L.describes.same_count)

  pub most-short : room < bytes_a_tone * count → most_on T budget room ≡ turned_down DestinationTooSmall
  unfolding most_on
  most-short h = simp (lt-ltb room (bytes_a_tone * T.count) (short h))

  pub most-fits : bytes_a_tone * count ≤ room → most_on T budget room ≡ loaded T (most_bits T budget)
  unfolding most_on
  most-fits h = simp (le-ltb room (bytes_a_tone * T.count) (fits h))

  module _ (target : ℕ) where
    pub target-short : room < bytes_a_tone * count → target_on T budget target room ≡ turned_down DestinationTooSmall
    unfolding target_on
    target-short h = simp (lt-ltb room (bytes_a_tone * T.count) (short h))

    module _ (h : bytes_a_tone * count ≤ room) {t : Table} (q : (run (add_step T budget) target (no_bits T)).table ≡ t) where
      aims : target_on T budget target room ≡ on_target T (carrying T target t)
      unfolding target_on
      aims = simp (le-ltb room (bytes_a_tone * T.count) (fits h), target_run L target, q)

      pub target-missed : ¬ (total_bits T t ≡ target) → target_on T budget target room ≡ turned_down TargetNotCarried
      unfolding carrying
      target-missed m = aims ∙ ap (on_target T) (if_neg (ℕ_discrete (total_bits T t) target) m (some t) none)

      pub target-carried : total_bits T t ≡ target → target_on T budget target room ≡ loaded T (record { table = t; moves = 0 })
      unfolding carrying
      target-carried c = aims ∙ ap (on_target T) (if_pos (ℕ_discrete (total_bits T t) target) c (some t) none)

  module _ (most : ℕ) (start : List ℕ) where
    pub refit-short : room < bytes_a_tone * count → refit_up_to most T budget start room ≡ turned_down DestinationTooSmall
    unfolding refit_up_to
    refit-short h = simp (lt-ltb room (bytes_a_tone * T.count) (short h))

    module _ (h : bytes_a_tone * count ≤ room) where
      pub refit-length : ¬ (length start ≡ count) → refit_up_to most T budget start room ≡ turned_down StartLengthWrong
      unfolding refit_up_to
      refit-length m =
          simp (le-ltb room (bytes_a_tone * T.count) (fits h), ne_eqb (length start) T.count (λ e. m (omega (arith, L.describes.same_count))))

      module _ (m : length start ≡ count) where
        same : length start ≡ T.count
        same = omega (arith, L.describes.same_count)

        pub refit-above : {i : ℕ} → first_above T start T.count ≡ Some i → refit_up_to most T budget start room ≡ turned_down (StartAboveLimit i)
        unfolding refit_up_to
        refit-above a = simp (le-ltb room (bytes_a_tone * T.count) (fits h), eq-eqb (length start) T.count same, a)

        pub refit-fits : first_above T start T.count ≡ None → refit_up_to most T budget start room ≡ loaded T (run (refit_step T budget) most start)
        unfolding refit_up_to
        refit-fits a = simp (le-ltb room (bytes_a_tone * T.count) (fits h), eq-eqb (length start) T.count same, a)
