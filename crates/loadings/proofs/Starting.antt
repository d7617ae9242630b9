-- A starting table beside the arrays: which tone of it is the first above its limit, and that it keeps the limits where none is.
-- Assumes nothing.
use mathlib.Core.List.{List}
use mathlib.Core.Path.{◌≡◌, ap, sym, ◌∙◌}
use Prim.Native.Nat.{ℕ, ◌<◌}
use native.Mathlib.Nat.{mul-le-mul_left, le_trans}
use native.Mathlib.Omega.{arith}
use lib.ListN.{length}
use Rattle.std.specs.Prelude.{Option, Some, None}
use Rattle.steps.specs.Tones.{Tones, KeepsLimits}
use Rattle.line.specs.Arrays.{Arrays, doublings_at, PowersInRange}
use Rattle.running.specs.declared.Running.{Running}
use Rattle.running.specs.Running.{Stands}
use Rattle.starts.specs.Starts.{first_above, SameLimits, StartsAt}
use Rattle.starts.proofs.First.{First, first_above_lem, none-keeps}
use Rattle.loadings.specs.Loads.{Loadable}

-- what the search for a tone above its limit promises
abbrev pub Searched : Arrays → (start : List ℕ) → Option ℕ → Type 0
Searched A start o = (T : Tones) → SameLimits T A (length start) → o ≡ first_above T start (length start)

module _ {count budget : ℕ} {A : Arrays} {T : Tones} (L : Loadable count budget A T) (start : List ℕ) (m : length start ≡ count) {o : Option ℕ}
    (found : Searched A start o) where
  sized : length start ≡ T.count
  sized = omega (arith, L.describes.same_count)

  -- it is the first of the tones
  pub first-is : first_above T start T.count ≡ o
  first-is = sym (found T (record { same_limit = λ i il. L.describes.same_limit i (omega arith) }) ∙ ap (first_above T start) sized)

  -- a tone that was found is one of them
  pub first-tone : {i : ℕ} → o ≡ Some i → i < count
  first-tone {i} e =
      let F : First T start T.count (Some i) = rw (first-is ∙ e) at (first_above_lem T start T.count) in
      omega (arith, F.0, L.describes.same_count)

  module _ (e : o ≡ None) where
    keeps : KeepsLimits T start
    keeps = none-keeps T start sized (first-is ∙ e)

    -- so its powers are in range, and the running table that it is copied into stands for it
    pub start-in-range : PowersInRange (length start) A start
    start-in-range = record {
      cost_high = λ i il. L.in_range.cost_high i (omega arith);
      shift_high = λ i il.
          let k : i < count = omega arith in
          le_trans (mul-le-mul_left (doublings_at A i) (omega (arith, keeps.under i (omega (arith, sized)), L.describes.same_limit i k))) (L.in_range.shift_high i k);
      rest_high = λ i il. L.in_range.rest_high i (omega arith);
    }

    pub start-stands : {q : Running} → StartsAt A start q → Stands count A q T start
    start-stands f = rw m at (f T (rw m L.describes) L.rising keeps)
