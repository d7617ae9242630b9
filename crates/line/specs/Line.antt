-- The line that a sheet means, as a value: no code holds one whole. Which tones are described and which silenced, and the tones as the
-- runs see them.
-- Assumes nothing.
use Rattle.std.specs.Prelude.{Bool, true, false, List, ℕ, zero, suc, ◌≤◌, ◌<◌, get_or}
use Rattle.sizes.specs.Sizes.{most_tones, most_power}
use Rattle.silence.specs.Map.{silenced}
use Rattle.steps.specs.Tones.{Tones, sum}
use Rattle.gaps.specs.declared.Gap.{Gap}
use Rattle.gaps.specs.Gap.{parts, GapInRange}
use Rattle.line.specs.declared.Tone.{Tone}
use Rattle.line.specs.declared.SetBy.{SetBy}
use Rattle.line.specs.declared.SetBy.TheVariants.{Silent}
use Rattle.line.specs.declared.Steps.{Steps}
use Rattle.line.specs.Tone.{bounds_of, noise_of, InRange, RestInRange, HighInRange, cost, power, limit, set_by, limit_of, doublings}

-- What later commands add to a described tone. W6: 'the rest, 0 where none is given'. W9: the high noise, which is the noise where none is
-- given, since an equal one is dropped by tidying and so is no part of the line.
pub record Added : Type 0 where
  pub rest : ℕ
  pub high : ℕ

-- nothing is added yet
abbrev pub none_added : Tone → Added
none_added t = record { rest = 0; high = noise_of t.kind }

-- a tone of a line: not described, or described, with what it carries and what is added
pub data Entry : Type 0 where
  undescribed : Entry
  described : Tone → Added → Entry

abbrev pub is_described : Entry → Bool
is_described undescribed = false
is_described (described t a) = true

-- a described tone with another rest, and with another high noise
abbrev pub with_rest : (rest : ℕ) → Entry → Entry
with_rest rest undescribed = undescribed
with_rest rest (described t a) = described t (record { rest = rest; high = a.high })

abbrev pub with_high : (high : ℕ) → Entry → Entry
with_high high undescribed = undescribed
with_high high (described t a) = described t (record { rest = a.rest; high = high })

-- 'A line is N, gap, budget, the described tones with what they carry, and the set of silenced tones': an entry for each of the N tones,
-- and the silence maps of as many words as the N tones take. W1: which command gave the gap 'belongs to the line'.
pub record Line : Type 0 where
  pub size : ℕ
  pub gap : Gap
  pub budget : ℕ
  pub entries : List Entry
  pub maps : List ℕ

-- the line's gap in 1/256, whichever command gave it
abbrev pub gap_of : Line → ℕ
gap_of l = parts l.gap

-- tone i of a line
abbrev pub entry_of : Line → (i : ℕ) → Entry
entry_of l i = get_or l.entries i undescribed

-- 'The limit of a tone is the largest b ..' at the cost that the gap gives it. 'A tone not described, or silenced, has limit 0.'
abbrev pub entry_limit : (g : ℕ) → Entry → (silenced : Bool) → ℕ
entry_limit g e true = 0
entry_limit g undescribed false = 0
entry_limit g (described t a) false = limit t (cost g t)

-- W3, what set it: 'every other tone is silent'
abbrev pub entry_set_by : (g : ℕ) → Entry → (silenced : Bool) → SetBy
entry_set_by g e true = Silent
entry_set_by g undescribed false = Silent
entry_set_by g (described t a) false = set_by t (cost g t)

-- W6: 'a tone that carries no bits .. sends its rest power', 'A silenced tone sends nothing'; and one not described has none
abbrev pub entry_rest : Entry → (silenced : Bool) → ℕ
entry_rest e true = 0
entry_rest undescribed false = 0
entry_rest (described t a) false = a.rest

-- the power of b bits; W6: 'The power at no bits becomes the rest'. A tone not described carries none.
abbrev pub entry_power : (g : ℕ) → Entry → (silenced : Bool) → (b : ℕ) → ℕ
entry_power g e q zero = entry_rest e q
entry_power g undescribed q (suc b) = 0
entry_power g (described t a) q (suc b) = power t (cost g t) (suc b)

-- the mask of a tone, 0 where none is described
abbrev pub entry_mask : Entry → ℕ
entry_mask undescribed = 0
entry_mask (described t a) = (bounds_of t).mask

-- The tones of a line, with the limits and powers that the runs go by.
abbrev pub tones : Line → Tones
tones l = record {
  count = l.size;
  limit = λ i. entry_limit (gap_of l) (entry_of l i) (silenced l.maps i);
  power = λ i b. entry_power (gap_of l) (entry_of l i) (silenced l.maps i) b;
}

-- what set the limit of tone i of a line
abbrev pub set_by_at : Line → (i : ℕ) → SetBy
set_by_at l i = entry_set_by (gap_of l) (entry_of l i) (silenced l.maps i)

-- the rest of tone i of a line, as it sends it
abbrev pub rest_of : Line → (i : ℕ) → ℕ
rest_of l i = entry_rest (entry_of l i) (silenced l.maps i)

-- W6: 'rests of unsilenced tones add up to'
abbrev pub rest_total : Line → ℕ
rest_total l = sum l.size (rest_of l)

-- the ranges of what is added: W6, of the rest what 15 leaves; W9, of the high noise what 4 leaves
pub record AddedInRange (g : ℕ) (t : Tone) (a : Added) : Type 0 where
  pub rest : RestInRange g t a.rest
  pub high : HighInRange t.kind a.high

-- the ranges of what an entry carries, at the line's gap
abbrev pub EntryInRange : (g : ℕ) → Entry → Type 0
EntryInRange g undescribed = Unit {0}
EntryInRange g (described t a) = InRange g t × AddedInRange g t a

-- the ranges of a line: N from 1 to the most tones, the gap in its unit's range, the budget from 0 to 2^47, and those of each tone
pub record LineInRange (l : Line) : Type 0 where
  pub size_low : 1 ≤ l.size
  pub size_high : l.size ≤ most_tones
  pub gap : GapInRange l.gap
  pub budget_high : l.budget ≤ most_power
  pub entries : (i : ℕ) → i < l.size → EntryInRange (gap_of l) (entry_of l i)

-- What the code finds of a tone, whichever its kind: its limit with what set it, and for the runs cost, doublings and rest. A silenced tone,
-- and one not described, has nothing.
abbrev pub no_steps : Steps
no_steps = record { limit = record { bits = 0; by = Silent }; cost = 0; doublings = 0; rest = 0 }

abbrev pub steps_of : (g : ℕ) → Tone → (rest : ℕ) → Steps
steps_of g t rest = record { limit = limit_of t (cost g t); cost = cost g t; doublings = doublings t; rest = rest }

abbrev pub entry_steps : (g : ℕ) → Entry → (silenced : Bool) → Steps
entry_steps g e true = no_steps
entry_steps g undescribed false = no_steps
entry_steps g (described t a) false = steps_of g t a.rest

-- that of tone i of a line
abbrev pub steps_at : Line → (i : ℕ) → Steps
steps_at l i = entry_steps (gap_of l) (entry_of l i) (silenced l.maps i)
