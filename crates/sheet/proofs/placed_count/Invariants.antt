-- `sheet::placed_count` meets its contract. Between the turns n is the count so far. Assumes nothing.
use mathlib.Core.Path.{◌≡◌}
use mathlib.Core.Bool.{Bool}
use mathlib.Core.List.{List}
use Prim.Native.Nat.{ℕ}
use lib.Dec.{ltb}
use lib.ListN.{get_or}
use Rattle.silence.specs.Map.{count}
use Rattle.places.specs.declared.Noted.{Noted}
use Rattle.places.specs.Places.{nowhere}
use Rattle.sheet.proofs.placed_count.Given as goal

-- whether a tone has a place
abbrev pub placed : List Noted → (i : ℕ) → Bool
placed tones i = ltb 0 (get_or tones i nowhere).own

abbrev pub invariant-loop-tone : goal.invariant-loop-tone
invariant-loop-tone l = l.n ≡ count l.tone (placed l.tones)
