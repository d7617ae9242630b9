-- The guarded loading, for all bytes of the sheet and all buffers. Document 02, W9: 'A guarded loading uses every high noise', and 'It also answers
-- the total bits of the plain loading at the low noises'.
-- Assumes nothing.
use Rattle.std.specs.Prelude.{Bool, not, ◌&&◌, cond, List, [], ◌∷◌, ℕ, ltb, Result, Ok, Err}
use Rattle.steps.specs.Tones.{total_bits, total_power}
use Rattle.steps.specs.Runs.{most_bits}
use Rattle.refusals.specs.declared.Refusal.{Refusal}
use Rattle.line.specs.declared.Steps.{Steps}
use Rattle.line.specs.Line.{tones, steps_of}
use Rattle.places.specs.declared.Noted.{Noted}
use Rattle.places.specs.Places.{tone_at, high_at}
use Rattle.noises.specs.Noises.{with_noise, at_high}
use Rattle.refusals.specs.Refusals.{Outcome, success, refusal}
use Rattle.loadings.specs.Loads.{Loading, loaded, turned_down, totals_of, most_on}
use Rattle.sheet.specs.Reading.{Meaning, accepted, refused}
use Rattle.guarded.specs.declared.GuardedLoad.{GuardedLoad}

-- the refusals of the sheet come first, then 8; else the loading for most bits of the line at its high noises
unfoldable pub guarding : Meaning → (room : ℕ) → Loading
guarding (refused q) room = turned_down q
guarding (accepted l) room = most_on (tones (at_high l)) l.budget room

-- 'the total bits of the plain loading at the low noises'
abbrev pub plain_bits : Meaning → ℕ
plain_bits (refused q) = 0
plain_bits (accepted l) = total_bits (tones l) (most_bits (tones l) l.budget).table

-- what the call answers: total bits and total power at the high noises, and the plain loading's total bits; as a result, and as numbers
abbrev pub guarded_answer : (plain : ℕ) → Loading → Result GuardedLoad Refusal
guarded_answer plain (loaded T r) = Ok (record { totals = totals_of T r.table; plain = plain })
guarded_answer plain (turned_down q) = Err q

abbrev pub guarded_outcome : (plain : ℕ) → Loading → Outcome
guarded_outcome plain (loaded T r) = success (total_bits T r.table ∷ total_power T r.table ∷ plain ∷ [])
guarded_outcome plain (turned_down q) = refusal 3 q

-- the numbers of each case of the result
abbrev pub guarded_numbers : Result GuardedLoad Refusal → Outcome
guarded_numbers (Ok g) = success (g.totals.bits ∷ g.totals.power ∷ g.plain ∷ [])
guarded_numbers (Err q) = refusal 3 q

-- ---- as the code goes

-- the steps of a tone at its high noise, by where its commands stand; those that it has where it has no high noise, or is silenced
abbrev pub raised_tone : (g : ℕ) → List ℕ → Noted → (silenced : Bool) → Steps → Steps
raised_tone g s n silenced steps =
    cond (ltb 0 n.high && not silenced) (steps_of g (with_noise (high_at s n.high) (tone_at s n.own)) steps.rest) steps
