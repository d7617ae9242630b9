-- From the outcome of a loading of tones to that of a call on bytes: the sheet's refusal, or the loading of its line's tones.
-- Assumes nothing.
use mathlib.Core.List.{List}
use mathlib.Core.Path.{◌≡◌, refl, fun_ext}
use Prim.Native.Nat.{ℕ, ◌≤◌}
use lib.ListN.{length, take}
use Rattle.sizes.specs.Sizes.{most_bits_of_all}
use Rattle.steps.specs.Tones.{Tones}
use Rattle.line.specs.Line.{Line, rest_total, LineInRange, tones}
use Rattle.line.specs.Arrays.{Arrays}
use Rattle.line.proofs.Loads.{line-rising, no-bits-fit}
use Rattle.line.proofs.Masks.{limits-high}
use Rattle.refusals.specs.declared.Refusal.{Refusal}
use Rattle.rows.specs.declared.Header.{Header}
use Rattle.loadings.specs.Loads.{Loading, turned_down, Loadable, SomeTones, ForTones}
use Rattle.loadings.specs.Refits.{refit_up_to, refit_on, step_on}
use Rattle.loadings.proofs.Runs.{line-loadable}
use Rattle.loadings.proofs.UpTo.{whole-refit, single_step}
use Rattle.sheet.specs.Reading.{Meaning, accepted, refused, reading}
use Rattle.sheet.proofs.Sound.{Bytes, accepted-sound, accepted-fits}
use Rattle.arrays.proofs.Uses.{HeldLine}
use Rattle.loader.specs.Calls.{on_line, refit, one_step, refit_by}

-- ---- the loading of a line's tones, which stand at the front of the array

module _ (s : List ℕ) {h : Header} {A : Arrays} (x : HeldLine h A (reading s)) where
  held-loadable : Loadable (length (take h.size A)) h.budget (take h.size A) (tones x.line)
  held-loadable = rw (← x.header_is) (line-loadable x.line x.in_range x.line.budget (accepted-fits s x.line x.means) x.arrays_of)

  pub some_tones : SomeTones (length (take h.size A)) h.budget (take h.size A)
  some_tones = record { tones = tones x.line; loadable = held-loadable }

  -- what holds of all tones that the array describes holds of the line's, within the line's budget
  pub on-held : (P : ((room : ℕ) → Loading) → Type 0) (on : Tones → (budget room : ℕ) → Loading)
      → ForTones (length (take h.size A)) h.budget (take h.size A) (λ T. P (on T h.budget)) → P (λ room. on_line (reading s) (λ T budget. on T budget room))
  on-held P on f = rw x.means (rw (← x.header_is) at (f (tones x.line) held-loadable))

-- a sheet that was refused
pub not-loaded : {m : Meaning} {q : Refusal} → m ≡ refused q → (on : Tones → (budget : ℕ) → Loading) → on_line m on ≡ turned_down q
not-loaded e on = rw e

-- ---- the two re-fits that the code makes

pub whole : (s : List ℕ) → Bytes s → (start : List ℕ) → refit_by most_bits_of_all s start ≡ refit s start
unfolding refit_by refit
whole s b start = fun_ext (λ room. by room (reading s) (λ l e. ((accepted-sound s b l e).in_range, accepted-fits s l e)))
  where
    by : (room : ℕ) (m : Meaning) → ((l : Line) → m ≡ accepted l → LineInRange l × (rest_total l ≤ l.budget))
        → on_line m (λ T budget. refit_up_to most_bits_of_all T budget start room) ≡ on_line m (λ T budget. refit_on T budget start room)
    by room (refused q) f = refl
    by room (accepted l) f =
        let k = f l refl in
        whole-refit (tones l) (line-rising l k.0) (limits-high l k.0) l.budget (no-bits-fit l l.budget k.1) start room

pub single : (s start : List ℕ) → refit_by 1 s start ≡ one_step s start
unfolding refit_by one_step
single s start = fun_ext (λ room. by room (reading s))
  where
    by : (room : ℕ) (m : Meaning) → on_line m (λ T budget. refit_up_to 1 T budget start room) ≡ on_line m (λ T budget. step_on T budget start room)
    by room (refused q) = refl
    by room (accepted l) = single_step (tones l) l.budget start room
