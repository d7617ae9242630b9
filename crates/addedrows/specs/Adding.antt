-- Whether a tone takes a command that it may have once, from where it is described and where it has had such a command. Document 02, W6 and W9.
-- Assumes nothing.
use Rattle.std.specs.Prelude.{Bool, not, ◌&&◌, cond, ℕ, leb, ltb, Result, Ok, Err}
use Rattle.refusals.specs.declared.Refusal.{Refusal}
use Rattle.refusals.specs.declared.Refusal.TheVariants.{ToneBeyondLine, ToneCannotTake}

-- it is described, and has had none
abbrev pub takes_at : (place had : ℕ) → Bool
takes_at place had = ltb 0 place && not (ltb 0 had)

-- refusals 5 and then 14, at the tone
abbrev pub adding_to : (size tone place : ℕ) → (takes : Bool) → Result ℕ Refusal
adding_to size tone place takes = cond (leb size tone) (Err (ToneBeyondLine place)) (cond takes (Ok tone) (Err (ToneCannotTake place)))
