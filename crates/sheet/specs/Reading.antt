-- What a sheet means, for all byte lists of any length: what its bytes say, and then whether its rests keep the budget. Document 01, 'The
-- line sheet' and 'Why a sheet is turned down'; document 02, W1, W5, W6, W8 and W9.
-- Assumes nothing.
use Rattle.std.specs.Prelude.{Bool, true, false, cond, List, ℕ, zero, suc, ltb, eqb, length, set, replicate, Result, Ok, Err}
use Rattle.sizes.specs.Sizes.{words_of}
use Rattle.silence.specs.Map.{joined}
use Rattle.gaps.specs.declared.Gap.TheVariants.{Parts}
use Rattle.line.specs.Line.{none_added, Entry, undescribed, described, with_rest, with_high, Line, entry_of, rest_total}
use Rattle.refusals.specs.declared.Refusal.{Refusal}
use Rattle.refusals.specs.declared.Refusal.TheVariants.{SheetTooLong, SheetEnds, BytesAfterEnd, RestsOverBudget}
use Rattle.rows.specs.declared.Header.{Header}
use Rattle.rows.specs.declared.Command.{Command}
use Rattle.rows.specs.declared.Command.TheVariants.{End, Head, Describe, Rest, High, Silence}
use Rattle.rows.specs.declared.Decoded.{Decoded}
use Rattle.addresses.specs.Addresses.{addressed}
use Rattle.places.specs.Places.{tone_at, rest_at, high_at}
use Rattle.rows.specs.Rows.{Known}
use Rattle.command.specs.Format.{Format, today, is_too_long, decoded}

-- A sheet means a line, or meets a refusal.
pub data Meaning : Type 0 where
  accepted : Line → Meaning
  refused : Refusal → Meaning

-- the header of a line, and the line of a header: nothing described, nothing silenced
abbrev pub header_of : Line → Header
header_of l = record { size = l.size; gap = l.gap; budget = l.budget }

abbrev pub bare_line : Header → Line
bare_line h = record { size = h.size; gap = h.gap; budget = h.budget; entries = replicate h.size undescribed; maps = replicate (words_of h.size) 0 }

-- the line before any command
abbrev pub empty_line : Line
empty_line = bare_line (record { size = 0; gap = Parts 0; budget = 0 })

-- a line with another entry for tone i
abbrev pub with_entry : Line → (i : ℕ) → Entry → Line
with_entry l i e = record { size = l.size; gap = l.gap; budget = l.budget; entries = set l.entries i e; maps = l.maps }

-- What a command at a place does to the line. A new header comes before any tone; W6: a 0B gives a described tone its rest, W9: a 0C
-- its high noise.
abbrev pub effect : Command → List ℕ → (at : ℕ) → Line → Line
effect End s at l = l
effect (Head h) s at l = bare_line h
effect (Describe i) s at l = with_entry l i (described (tone_at s at) (none_added (tone_at s at)))
effect (Rest i) s at l = with_entry l i (with_rest (rest_at s at) (entry_of l i))
effect (High i) s at l = with_entry l i (with_high (high_at s at) (entry_of l i))
effect (Silence word map) s at l = record { size = l.size; gap = l.gap; budget = l.budget; entries = l.entries; maps = joined l.maps word map }

-- What the reading remembers: the line so far, and which tones have 'had a 0B already, even of rest 0', and which a 0C, which is no part of
-- the line.
pub record SoFar : Type 0 where
  pub line : Line
  pub rested : (i : ℕ) → Bool
  pub widened : (i : ℕ) → Bool

-- before any command
abbrev pub nothing : SoFar
nothing = record { line = empty_line; rested = λ i. false; widened = λ i. false }

-- after a command: a 0B is remembered of its tone, and so is a 0C
abbrev pub rested_after : Command → (ℕ → Bool) → (i : ℕ) → Bool
rested_after (Rest j) rested i = cond (eqb i j) true (rested i)
rested_after End rested i = rested i
rested_after (Head h) rested i = rested i
rested_after (Describe j) rested i = rested i
rested_after (High j) rested i = rested i
rested_after (Silence word map) rested i = rested i

abbrev pub widened_after : Command → (ℕ → Bool) → (i : ℕ) → Bool
widened_after (High j) widened i = cond (eqb i j) true (widened i)
widened_after End widened i = widened i
widened_after (Head h) widened i = widened i
widened_after (Describe j) widened i = widened i
widened_after (Rest j) widened i = widened i
widened_after (Silence word map) widened i = widened i

abbrev pub so_far_after : Command → List ℕ → (at : ℕ) → SoFar → SoFar
so_far_after c s at x = record { line = effect c s at x.line; rested = rested_after c x.rested; widened = widened_after c x.widened }

-- How many of the first three commands have been read after a command.
abbrev pub stage_after : Command → (stage : ℕ) → ℕ
stage_after (Head h) stage = suc stage
stage_after (Describe i) stage = stage
stage_after (Rest i) stage = stage
stage_after (High i) stage = stage
stage_after (Silence word map) stage = stage
stage_after End stage = stage

-- After a command the reading ends, or goes on at a place, with what it remembers.
pub data Next : Type 0 where
  stop : Meaning → Next
  go : (at stage : ℕ) → SoFar → Next

-- '07 as the last byte'; refusal 7: 'Bytes follow the end command.'
abbrev pub after_command : Command → (next : ℕ) → List ℕ → (at stage : ℕ) → SoFar → Next
after_command End next s at stage x = stop (cond (ltb next (length s)) (refused (BytesAfterEnd next)) (accepted x.line))
after_command (Head h) next s at stage x = go next (stage_after (Head h) stage) (so_far_after (Head h) s at x)
after_command (Describe i) next s at stage x = go next (stage_after (Describe i) stage) (so_far_after (Describe i) s at x)
after_command (Rest i) next s at stage x = go next (stage_after (Rest i) stage) (so_far_after (Rest i) s at x)
after_command (High i) next s at stage x = go next (stage_after (High i) stage) (so_far_after (High i) s at x)
after_command (Silence word map) next s at stage x = go next (stage_after (Silence word map) stage) (so_far_after (Silence word map) s at x)

-- what is known of tone i
abbrev pub known_of : SoFar → (i : ℕ) → Known
known_of x i = record { entry = entry_of x.line i; rested = x.rested i; widened = x.widened i }

-- the command at a place, decoded with the header so far and what is known of the tone that it addresses
abbrev pub command_in : Format → SoFar → List ℕ → (at stage : ℕ) → Decoded
command_in F x s at stage = decoded F (header_of x.line) (known_of x (addressed s at)) s at stage

-- a refusal of one ends the reading
abbrev pub after_judged : Result Command Refusal → (next : ℕ) → List ℕ → (at stage : ℕ) → SoFar → Next
after_judged (Ok c) next s at stage x = after_command c next s at stage x
after_judged (Err r) next s at stage x = stop (refused r)

abbrev pub after_decoded : Decoded → List ℕ → (at stage : ℕ) → SoFar → Next
after_decoded d s at stage x = after_judged d.command d.next s at stage x

abbrev pub read_on : Next → ((at stage : ℕ) → SoFar → Meaning) → Meaning
read_on (stop m) on = m
read_on (go at stage x) on = on at stage x

-- The commands from a place on, one after the other, at most so many. A command has a byte at least, so as many as the sheet has
-- bytes, and the one that finds the end missing, are all there can be.
unfoldable pub read_from : Format → (most : ℕ) → List ℕ → (at stage : ℕ) → SoFar → Meaning
read_from F zero s at stage x = refused (SheetEnds (length s))
read_from F (suc most) s at stage x = read_on (after_decoded (command_in F x s at stage) s at stage x) (read_from F most s)

-- What the bytes say. 'Refusal 1 is judged first, then 2 to 7 as the reading meets them'; so are 12 and 13 of W5, 14 and 15 of W6, and
-- 14 and 4 of W9.
unfoldable pub said_in : Format → List ℕ → Meaning
said_in F s = cond (is_too_long F s) (refused SheetTooLong) (read_from F (suc (length s)) s 0 0 nothing)

-- W6, refusal 16: 'rests of unsilenced tones add up to more than the budget, place 0, in every call that reads a sheet, after 7 and before 8'.
-- It is judged of what the bytes say, against a budget; a sheet's own is the line's.
abbrev pub rests_within : (budget : ℕ) → Line → Meaning
rests_within budget l = cond (ltb budget (rest_total l)) (refused RestsOverBudget) (accepted l)

abbrev pub rests_judged : Meaning → Meaning
rests_judged (accepted l) = rests_within l.budget l
rests_judged (refused r) = refused r

unfoldable pub reading_in : Format → List ℕ → Meaning
unfolding said_in
reading_in F s = rests_judged (said_in F s)

-- in the format that is read
abbrev pub said : List ℕ → Meaning
said s = said_in today s

abbrev pub reading : List ℕ → Meaning
reading s = reading_in today s
