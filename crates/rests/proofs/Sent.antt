-- The rest that one tone sends, by its place.
-- Assumes nothing.
use mathlib.Core.Bool.{Bool, true, false, cond}
use mathlib.Core.List.{List}
use mathlib.Core.Path.{◌≡◌, refl}
use Prim.Native.Nat.{ℕ, ◌≤◌}
use Rattle.silence.specs.Map.{silenced}
use Rattle.places.proofs.Entries.{no_rest}
use Rattle.rests.specs.Rests.{sent_at}

-- a tone without a rest sends none
pub none-sent : (s : List ℕ) (place : ℕ) (maps : List ℕ) (tone : ℕ) → place ≤ 0 → sent_at s place maps tone ≡ 0
none-sent s place maps tone h = rw (no_rest s place h) (by (silenced maps tone))
  where
    by : (t : Bool) → ◌≡◌ {A = ℕ} (cond t 0 0) 0
    by true = refl
    by false = refl
