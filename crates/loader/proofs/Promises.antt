-- What the calls promise besides their outcomes, of every accepted sheet: most bits, demand 3 of every starting table that keeps the limits,
-- and least power at a set number of bits; each of the answer and the buffer that the call leaves.
-- Assumes nothing.
use mathlib.Core.List.{List, ◌++◌}
use mathlib.Core.Path.{◌≡◌, refl, ap, sym, subst, ◌∙◌}
use Prim.Native.Nat.{ℕ, ◌*◌, ◌≤◌}
use borrow.Author.Tests.{le-ltb, eq-eqb}
use lib.ListN.{length, drop, take}
use lib.Seq.{take_at}
use Rattle.sizes.specs.Sizes.{bytes_a_tone, most_bits_of_all}
use Rattle.steps.specs.Tones.{Table, no_bits, KeepsLimits, KeepsBudget}
use Rattle.steps.specs.Runs.{most_bits, refit_run}
use Rattle.steps.specs.Claims.{Best, Demand3}
use Rattle.line.specs.Line.{Line, rest_total, LineInRange, tones}
use Rattle.line.proofs.Loads.{line-demand-3, line-set-bits, no-bits-keep}
use Rattle.starts.proofs.First.{none_above}
use Rattle.tables.specs.Tables.{table_bytes}
use Rattle.tables.proofs.Entries.{length-entries}
use Rattle.std.specs.Prelude.{Result}
use Rattle.refusals.specs.declared.Refusal.{Refusal}
use Rattle.running.specs.declared.Totals.{Totals}
use Rattle.loadings.specs.declared.Refitted.{Refitted}
use Rattle.loadings.specs.Loads.{Loading, loaded, most_on, target_on, load_answer, load_numbers, load_outcome, after_loading, LoadsAs}
use Rattle.loadings.specs.Refits.{refit_on, refit_answer, refit_numbers, refit_outcome, RefitsAs}
use Rattle.refusals.specs.Writing.{after_writing}
use Rattle.refusals.proofs.Writing.{fits}
use Rattle.sheet.specs.Reading.{accepted, reading}
use Rattle.sheet.proofs.Sound.{Bytes, accepted-sound, accepted-fits}
use Rattle.tidyform.specs.Tidy.{tidy}
use Rattle.tidyform.proofs.Tidied.{tidy-keeps}
use Rattle.tidy.specs.Tidying.{tidying}
use Rattle.loader.specs.Calls.{load_most, load_target, refit, one_step, refit_by}
use Rattle.noises.specs.Noises.{at_high}
use Rattle.noises.proofs.Guarded.{best-guarded}
use Rattle.guarded.specs.declared.GuardedLoad.{GuardedLoad}
use Rattle.guarded.specs.Guarded.{guarding, plain_bits, guarded_answer}
use Rattle.loader.specs.Claims.{MostBits, MostBitsOn, SameLoading, Demand3On, TargetMet, TargetOn, GuardedMet, TidyOn}
use Rattle.loader.proofs.Outcomes.{whole, single}

-- an accepted sheet is loaded for most bits where its table has room
pub most-is : (sheet : List ℕ) (room : ℕ) (l : Line) → reading sheet ≡ accepted l → bytes_a_tone * l.size ≤ room
    → load_most sheet room ≡ loaded (tones l) (most_bits (tones l) l.budget)
unfolding load_most most_on
most-is sheet room l e h = simp (e, le-ltb room (bytes_a_tone * l.size) h)

module _ (sheet : List ℕ) (b : Bytes sheet) (l : Line) (e : reading sheet ≡ accepted l) (old new : List ℕ) (h : bytes_a_tone * l.size ≤ length old) where
  in_range : LineInRange l
  in_range = (accepted-sound sheet b l e).in_range

  rests-fit : rest_total l ≤ l.budget
  rests-fit = accepted-fits sheet l e

  module _ (start : List ℕ) (w : KeepsLimits (tones l) start) where
    D : Demand3 (tones l) l.budget start
    D = line-demand-3 l in_range rests-fit start w

    refit-is : refit sheet start (length old) ≡ loaded (tones l) (refit_run (tones l) l.budget start)
    unfolding refit refit_on
    refit-is =
        simp (e, le-ltb (length old) (bytes_a_tone * l.size) h, eq-eqb (length start) l.size w.sized, none_above (tones l) start l.size w.under)

    -- the re-fit's table is the loading's, so what goes by the table is the same
    same : {A : Type 0} (f : Table → A) → f (refit_run (tones l) l.budget start).table ≡ f (most_bits (tones l) l.budget).table
    same f = ap f D.same_table

    pub same-loading : {r : Result Refitted Refusal} → r ≡ refit_answer (refit sheet start (length old)) → new ≡ after_loading (refit sheet start (length old)) old → SameLoading sheet start l r old new
    same-loading a n = record {
      same_bytes = n ∙ ap (λ (x : Loading). after_loading x old) refit-is ∙ same (λ t. table_bytes (tones l) t ++ drop (bytes_a_tone * l.size) old) ∙ sym (ap (λ (x : Loading). after_loading x old) (most-is sheet (length old) l e h));
      same_totals = rw (refit-is, most-is sheet (length old) l e h, D.same_table);
      answers = a ∙ ap refit_answer refit-is ∙ rw D.same_table;
      runs = D;
    }

  -- adding from nothing, seen as a re-fit from no bits
  from-none : Demand3 (tones l) l.budget (no_bits (tones l))
  from-none = line-demand-3 l in_range rests-fit (no_bits (tones l)) (no-bits-keep l in_range)

  pub most-bits : {r : Result Totals Refusal} → r ≡ load_answer (load_most sheet (length old)) → new ≡ after_loading (load_most sheet (length old)) old → MostBits (tones l) l.budget r old new
  most-bits a n = record {
    answers = a ∙ ap load_answer (most-is sheet (length old) l e h);
    front = ap (take (bytes_a_tone * l.size)) (n ∙ ap (λ (x : Loading). after_loading x old) (most-is sheet (length old) l e h)) ∙ take_at _ _ _ (length-entries (tones l) (most_bits (tones l) l.budget).table l.size);
    limits = subst (KeepsLimits (tones l)) from-none.same_table from-none.limits;
    budget_kept = subst (KeepsBudget (tones l) l.budget) from-none.same_table from-none.budget_kept;
    best = subst (Best (tones l) l.budget) from-none.same_table from-none.best;
    added = from-none.added;
  }

  pub target-met : (target : ℕ) {r : Result Totals Refusal} → r ≡ load_answer (load_target sheet target (length old)) → TargetMet (tones l) l.budget target r
  unfolding load_target target_on
  target-met target a = record {
    answers = simp (e, le-ltb (length old) (bytes_a_tone * l.size) h) at a;
    carries = line-set-bits l in_range rests-fit target;
  }

-- W9: what holds of the guarded loading of an accepted sheet whose table has room
pub guarded-met : (sheet : List ℕ) (b : Bytes sheet) (l : Line) (e : reading sheet ≡ accepted l) (old new : List ℕ) (h : bytes_a_tone * l.size ≤ length old) {r : Result GuardedLoad Refusal}
    → r ≡ guarded_answer (plain_bits (reading sheet)) (guarding (reading sheet) (length old)) → new ≡ after_loading (guarding (reading sheet) (length old)) old → GuardedMet l r new
unfolding guarding most_on
guarded-met sheet b l e old new h a n = record {
  answers = a ∙ rw (is, e);
  front = ap (take (bytes_a_tone * l.size)) (n ∙ ap (λ (x : Loading). after_loading x old) is) ∙ take_at _ _ _ (length-entries (tones (at_high l)) (most_bits (tones (at_high l)) l.budget).table l.size);
  best = best-guarded l (accepted-sound sheet b l e).in_range (accepted-fits sheet l e);
}
  where
    is : guarding (reading sheet) (length old) ≡ loaded (tones (at_high l)) (most_bits (tones (at_high l)) l.budget)
    is = simp (e, le-ltb (length old) (bytes_a_tone * l.size) h)

-- ---- what each call has to show: its answer, that in the paper's numbers, the buffer, and its promise

abbrev LoadCall : Result Totals Refusal → (old new : List ℕ) → Loading → Type 0 → Type 0
LoadCall r old new x Promise = (r ≡ load_answer x) × ((load_numbers r ≡ load_outcome x) × ((new ≡ after_loading x old) × Promise))

abbrev RefitCall : Result Refitted Refusal → Loading → Type 0 → Type 0
RefitCall r x Rest = (r ≡ refit_answer x) × ((refit_numbers r ≡ refit_outcome x) × Rest)

module _ (s : List ℕ) (b : Bytes s) (old new : List ℕ) where
  pub most-call : {r : Result Totals Refusal} → LoadsAs r old new (load_most s) → LoadCall r old new (load_most s (length old)) (MostBitsOn s r old new)
  most-call p = (p.answer, (p.numbers, (p.bytes, λ l e h. most-bits s b l e old new h p.answer p.bytes)))

  pub target-call : (target : ℕ) {r : Result Totals Refusal} → LoadsAs r old new (load_target s target) → LoadCall r old new (load_target s target (length old)) (TargetOn s target r old)
  target-call target p = (p.answer, (p.numbers, (p.bytes, λ l e h. target-met s b l e old new h target p.answer)))

  pub refit-call : (start : List ℕ) {r : Result Refitted Refusal} → RefitsAs r old new (refit_by most_bits_of_all s start)
      → RefitCall r (refit s start (length old)) ((new ≡ after_loading (refit s start (length old)) old) × Demand3On s start r old new)
  refit-call start {r} x =
      let p : RefitsAs r old new (refit s start) = rw (whole s b start) at x in
      (p.answer, (p.numbers, (p.bytes, λ l e h w. same-loading s b l e old new h start w p.answer p.bytes)))

  pub step_call : (start : List ℕ) {r : Result Refitted Refusal} → RefitsAs r old new (refit_by 1 s start)
      → RefitCall r (one_step s start (length old)) (new ≡ after_loading (one_step s start (length old)) old)
  step_call start {r} x =
      let p : RefitsAs r old new (one_step s start) = rw (single s start) at x in
      (p.answer, (p.numbers, p.bytes))

-- ---- tidying

pub tidy-call : (s : List ℕ) → Bytes s → (old : List ℕ) {new : List ℕ} → new ≡ after_writing (tidying (reading s) (length old)) old → TidyOn s old new
tidy-call s b old {new} n l e h = record {
  front = ap (take (length (tidy l))) (n ∙ rw (e, fits {room = length old} (tidy l) h)) ∙ take_at (tidy l) (drop (length (tidy l)) old) (length (tidy l)) refl;
  keeps = tidy-keeps s b l e;
}
