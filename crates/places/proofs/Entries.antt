-- What stands at places: by whether a tone's command, a rest's, and a high noise's, has one.
-- Assumes nothing.
use mathlib.Core.List.{List}
use mathlib.Core.Path.{◌≡◌, refl}
use Prim.Native.Nat.{ℕ, zero, suc, ◌≤◌, ◌<◌}
use native.Mathlib.Omega.{arith}
use Rattle.line.specs.declared.Tone.{Tone}
use Rattle.line.specs.Tone.{noise_of}
use Rattle.line.specs.Line.{undescribed, described}
use Rattle.places.specs.Places.{tone_at, rest_at, rest_from, high_at, high_from, added_at, entry_at}

module _ (s : List ℕ) where
  pub no_rest : (place : ℕ) → place ≤ 0 → rest_from s place ≡ 0
  no_rest zero h = refl
  no_rest (suc p) h = absurd (omega arith)

  pub rest-there : (place : ℕ) → 0 < place → rest_from s place ≡ rest_at s place
  rest-there zero h = absurd (omega arith)
  rest-there (suc p) h = refl

  pub no_high : (t : Tone) (place : ℕ) → place ≤ 0 → high_from s t place ≡ noise_of t.kind
  no_high t zero h = refl
  no_high t (suc p) h = absurd (omega arith)

  pub high-there : (t : Tone) (place : ℕ) → 0 < place → high_from s t place ≡ high_at s place
  high-there t zero h = absurd (omega arith)
  high-there t (suc p) h = refl

  pub no-entry : (rest high place : ℕ) → place ≤ 0 → entry_at s place rest high ≡ undescribed
  no-entry rest high zero h = refl
  no-entry rest high (suc p) h = absurd (omega arith)

  pub entry-there : (rest high place : ℕ) → 0 < place → entry_at s place rest high ≡ described (tone_at s place) (added_at s (tone_at s place) rest high)
  entry-there rest high zero h = absurd (omega arith)
  entry-there rest high (suc p) h = refl
