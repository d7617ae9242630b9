-- What the command at a place of a sheet carries after its tone's number: the tone that it describes, or the rest or
-- the high noise that it gives.
-- Assumes nothing.
use Rattle.std.specs.Prelude.{cond, List, ℕ, zero, suc, ◌+◌, eqb, Float, get_or}
use Rattle.bigendian.specs.Number.{number_at}
use Rattle.readings.specs.declared.Levels.{Levels}
use Rattle.readings.specs.declared.Reading.TheVariants.{Both, Ratio}
use Rattle.readings.specs.Reading.{float_of}
use Rattle.line.specs.declared.Numbers.{Numbers}
use Rattle.line.specs.declared.ReadNumbers.{ReadNumbers}
use Rattle.line.specs.declared.Kind.{Kind}
use Rattle.line.specs.declared.Kind.TheVariants.{Pair, Single, Read}
use Rattle.line.specs.declared.Tone.{Tone}
use Rattle.line.specs.Tone.{noise_of}
use Rattle.line.specs.Line.{Added, Entry, undescribed, described}
use Rattle.addresses.specs.Addresses.{short_of, carried_at}
use Rattle.places.specs.declared.Noted.{Noted}

-- 'noise 2, gain 2, cap 1, mask 8', from a place on; what is not there reads as 0
abbrev pub numbers_at : List ℕ → (at : ℕ) → Numbers
numbers_at s at = record { noise = number_at s at 2; gain = number_at s (at + 2) 2; cap = get_or s (at + 4) 0; mask = number_at s (at + 5) 8 }

-- W5, '32-bit IEEE floats', high byte first
abbrev pub float_at : List ℕ → (at : ℕ) → Float
float_at s at = float_of (number_at s at 4)

-- W5, 09: 'noise float, gain float, cap, mask'
abbrev pub both_at : List ℕ → (at : ℕ) → Levels
both_at s at = record { noise = float_at s at; gain = float_at s (at + 4) }

abbrev pub levels_at : List ℕ → (at : ℕ) → ReadNumbers
levels_at s at = record { reading = Both (both_at s at); cap = get_or s (at + 8) 0; mask = number_at s (at + 9) 8 }

-- W5, 0A: 'ratio float, cap, mask'
abbrev pub ratio_at : List ℕ → (at : ℕ) → ReadNumbers
ratio_at s at = record { reading = Ratio (float_at s at); cap = get_or s (at + 4) 0; mask = number_at s (at + 5) 8 }

-- the tone that the short command of a byte describes with what it carries, every other byte's as a pair tone
abbrev pub kind_at : (short : ℕ) → List ℕ → (at : ℕ) → Kind
kind_at short s at =
    cond (eqb short 0x05) (Single (numbers_at s at))
    (cond (eqb short 0x09) (Read (levels_at s at))
    (cond (eqb short 0x0a) (Read (ratio_at s at)) (Pair (numbers_at s at))))

abbrev pub tone_at : List ℕ → (place : ℕ) → Tone
tone_at s place = record { kind = kind_at (short_of (get_or s place 0)) s (carried_at s place) }

-- W6, 0B: 'tone and rest, 4 bytes'
abbrev pub rest_at : List ℕ → (place : ℕ) → ℕ
rest_at s place = number_at s (carried_at s place) 4

-- the rest whose command stands at a place, 'where none is given' 0: no command after the first three stands at 0
abbrev pub rest_from : List ℕ → (place : ℕ) → ℕ
rest_from s zero = 0
rest_from s (suc p) = rest_at s (suc p)

-- W9, 0C: 'tone and high noise, 2 bytes'
abbrev pub high_at : List ℕ → (place : ℕ) → ℕ
high_at s place = number_at s (carried_at s place) 2

-- the high noise whose command stands at a place; where none does, the tone's own noise
abbrev pub high_from : List ℕ → Tone → (place : ℕ) → ℕ
high_from s t zero = noise_of t.kind
high_from s t (suc p) = high_at s (suc p)

-- what is added to a tone by commands that stand at two places
abbrev pub added_at : List ℕ → Tone → (rest high : ℕ) → Added
added_at s t rest high = record { rest = rest_from s rest; high = high_from s t high }

-- the entry of a tone whose command stands at a place, undescribed where none does, and whose rest's and high noise's at two others
abbrev pub entry_at : List ℕ → (place rest high : ℕ) → Entry
entry_at s zero rest high = undescribed
entry_at s (suc p) rest high = described (tone_at s (suc p)) (added_at s (tone_at s (suc p)) rest high)

-- the entry of a tone of whose commands these places are noted
abbrev pub entry_noted : List ℕ → Noted → Entry
entry_noted s n = entry_at s n.own n.rest n.high

-- nothing is noted of a tone
abbrev pub nowhere : Noted
nowhere = record { own = 0; rest = 0; high = 0 }
