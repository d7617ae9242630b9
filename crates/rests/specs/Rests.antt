-- The rests that the tones of a sheet send, by where their commands stand. Document 02, W6: 'rests of unsilenced tones add up to'.
-- Assumes nothing.
use Rattle.std.specs.Prelude.{cond, List, ℕ, get_or}
use Rattle.silence.specs.Map.{silenced}
use Rattle.steps.specs.Tones.{sum}
use Rattle.places.specs.declared.Noted.{Noted}
use Rattle.places.specs.Places.{rest_from, nowhere}

-- the rest that a tone sends whose 0B stands at a place, 0 for none; 'A silenced tone sends nothing'
abbrev pub sent_at : List ℕ → (place : ℕ) → (maps : List ℕ) → (tone : ℕ) → ℕ
sent_at s place maps tone = cond (silenced maps tone) 0 (rest_from s place)

abbrev pub rests_sent : List ℕ → (noted : List Noted) → (maps : List ℕ) → (size : ℕ) → ℕ
rests_sent s noted maps size = sum size (λ i. sent_at s (get_or noted i nowhere).rest maps i)
