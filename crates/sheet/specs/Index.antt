-- The index that reading leaves: where each tone's command stands in the sheet, where its rest's and its high noise's do,
-- and the joined silence maps. The sheet itself is the store of what the tones carry.
-- Assumes nothing.
use Rattle.std.specs.Prelude.{List, ◌≡◌, ℕ, ◌+◌, ◌≤◌, ◌<◌, length, get_or, replicate, Result, Ok, Err}
use Rattle.sizes.specs.Sizes.{most_tones, most_words}
use Rattle.line.specs.Line.{Line, entry_of}
use Rattle.rows.specs.declared.Header.{Header}
use Rattle.addresses.specs.Addresses.{addressed}
use Rattle.rows.specs.Codes.{ToneCode, RestCode, HighCode, command_bytes}
use Rattle.refusals.specs.declared.Refusal.{Refusal}
use Rattle.places.specs.declared.Noted.{Noted}
use Rattle.places.specs.Places.{entry_noted, nowhere}
use Rattle.sheet.specs.declared.Index.{Index}
use Rattle.sheet.specs.Reading.{Meaning, accepted, refused, header_of, said}

-- a command that addresses tone i stands at a place: a byte of its kind, its tone, and all of its bytes
pub record Stands (Code : ℕ → Type 0) (s : List ℕ) (i place : ℕ) : Type 0 where
  pub code : Code (get_or s place 0)
  pub tone : addressed s place ≡ i
  pub inside : place + command_bytes (get_or s place 0) ≤ length s

-- the one that describes it, the one that gives its rest, and the one that gives its high noise
abbrev pub ToneStands : List ℕ → (i place : ℕ) → Type 0
ToneStands = Stands ToneCode

abbrev pub RestStands : List ℕ → (i place : ℕ) → Type 0
RestStands = Stands RestCode

abbrev pub HighStands : List ℕ → (i place : ℕ) → Type 0
HighStands = Stands HighCode

-- what is noted of tone i
abbrev pub noted_of : Index → (i : ℕ) → Noted
noted_of x i = get_or x.tones i nowhere

-- nothing is noted of any tone, and no tone is silenced
abbrev pub empty_index : Index
empty_index = record { tones = replicate most_tones nowhere; maps = replicate most_words 0 }

-- An index of a line in a sheet. Tone by tone: the entry is the one whose command stands at the tone's place, and whose rest's and
-- high noise's at theirs, 0 for none; a tone without a place has neither. The maps are the line's; from its last word on they are 0.
pub record Indexes (s : List ℕ) (x : Index) (l : Line) : Type 0 where
  pub tones_sized : length x.tones ≡ most_tones
  pub maps_sized : length x.maps ≡ most_words
  pub entry : (i : ℕ) → entry_of l i ≡ entry_noted s (noted_of x i)
  pub stands : (i : ℕ) → 0 < (noted_of x i).own → ToneStands s i (noted_of x i).own
  pub rest_stands : (i : ℕ) → 0 < (noted_of x i).rest → RestStands s i (noted_of x i).rest
  pub high_stands : (i : ℕ) → 0 < (noted_of x i).high → HighStands s i (noted_of x i).high
  pub no_rest : (i : ℕ) → (noted_of x i).own ≡ 0 → (noted_of x i).rest ≡ 0
  pub no_high : (i : ℕ) → (noted_of x i).own ≡ 0 → (noted_of x i).high ≡ 0
  pub map : (word : ℕ) → get_or l.maps word 0 ≡ get_or x.maps word 0

-- what reading answers: the line's header, or the refusal
abbrev pub answer_of : Meaning → Result Header Refusal
answer_of (accepted l) = Ok (header_of l)
answer_of (refused q) = Err q

-- What reading answers and leaves: the line's header and its index, or the refusal and an empty index.
abbrev pub Leaves : List ℕ → Result Header Refusal → Index → Meaning → Type 0
Leaves s r x (accepted l) = (r ≡ Ok (header_of l)) × Indexes s x l
Leaves s r x (refused q) = (r ≡ Err q) × (x ≡ empty_index)

pub record ReadsAs (s : List ℕ) (r : Result Header Refusal) (x : Index) (m : Meaning) : Type 0 where
  pub leaves : Leaves s r x m

-- What a call that goes on from an index asks for: that the bytes of this sheet say a line with this header, and that it is an index of that
-- line.
pub record Indexed (s : List ℕ) (h : Header) (x : Index) : Type 0 where
  pub line : Line
  pub means : said s ≡ accepted line
  pub header_is : header_of line ≡ h
  pub indexes : Indexes s x line
