-- The described tones of the tidy form as they are written: of each command, of each rest's and of each high noise's, the byte and the tone's number in the width
-- that the tidy form has, and what it carries copied from its place in the sheet.
-- Assumes nothing.
use Rattle.std.specs.Prelude.{cond, List, [], ◌∷◌, ◌++◌, ℕ, zero, suc, ◌+◌, ◌-◌, ◌≤◌, ◌<◌, eqb, length, get_or}
use Rattle.lists.specs.Joined.{joined_below}
use Rattle.bigendian.specs.Number.{bytes}
use Rattle.addresses.specs.Addresses.{code_of, number_width, short_of, carried_at}
use Rattle.line.specs.Tone.{noise_of}
use Rattle.places.specs.declared.Noted.{Noted}
use Rattle.places.specs.Places.{tone_at, rest_from, high_from, nowhere}
use Rattle.rows.specs.Codes.{command_bytes}
use Rattle.tidyform.specs.Tidy.{tidy_width}

-- the bytes of a sheet from a place on
abbrev pub byte_from : List ℕ → (at k : ℕ) → List ℕ
byte_from s at k = get_or s (at + k) 0 ∷ []

abbrev pub part : List ℕ → (at width : ℕ) → List ℕ
part s at width = joined_below (byte_from s at) width

-- a command that addresses a tone and stands at a place is all there; none stands at 0
pub record Inside (s : List ℕ) (place : ℕ) : Type 0 where
  pub numbered : 0 < place → 1 + number_width (get_or s place 0) ≤ command_bytes (get_or s place 0)
  pub whole : 0 < place → place + command_bytes (get_or s place 0) ≤ length s

-- how many bytes stand after its tone's number
abbrev pub carried_bytes : (code : ℕ) → ℕ
carried_bytes code = command_bytes code - 1 - number_width code

-- the command of tone i that stands at a place
abbrev pub command_copy : List ℕ → (i place : ℕ) → List ℕ
command_copy s i place =
    code_of (tidy_width i) (short_of (get_or s place 0)) ∷ (bytes (tidy_width i) i ++ part s (carried_at s place) (carried_bytes (get_or s place 0)))

-- the one that describes it; none where it has no place
abbrev pub tone_copy : List ℕ → (i place : ℕ) → List ℕ
tone_copy s i zero = []
tone_copy s i (suc p) = command_copy s i (suc p)

-- the one that gives its rest; none where the rest is 0
abbrev pub rest_copy : List ℕ → (i place : ℕ) → List ℕ
rest_copy s i place = cond (eqb (rest_from s place) 0) [] (command_copy s i place)

-- the one that gives its high noise; none where that is the tone's own
abbrev pub high_copy : List ℕ → (i place high : ℕ) → List ℕ
high_copy s i place high = cond (eqb (high_from s (tone_at s place) high) (noise_of (tone_at s place).kind)) [] (command_copy s i high)

-- the commands of a tone
abbrev pub entry_copy : List ℕ → (i place rest high : ℕ) → List ℕ
entry_copy s i place rest high = tone_copy s i place ++ (rest_copy s i rest ++ high_copy s i place high)

abbrev pub copy_at : List ℕ → (noted : List Noted) → (i : ℕ) → List ℕ
copy_at s noted i = let n = get_or noted i nowhere in entry_copy s i n.own n.rest n.high

abbrev pub copies : (count : ℕ) → List ℕ → (noted : List Noted) → List ℕ
copies count s noted = joined_below (copy_at s noted) count

-- ---- as the code goes

-- the commands of a tone that stand at its places are all there
pub record AllInside (s : List ℕ) (n : Noted) : Type 0 where
  pub own : Inside s n.own
  pub rest : Inside s n.rest
  pub high : Inside s n.high

-- where the commands stand that are written: a rest of 0 goes, and so does a high noise that is the tone's own
abbrev pub kept : List ℕ → Noted → Noted
kept s n = record {
  own = n.own;
  rest = cond (eqb (rest_from s n.rest) 0) 0 n.rest;
  high = cond (eqb (high_from s (tone_at s n.own) n.high) (noise_of (tone_at s n.own).kind)) 0 n.high;
}
