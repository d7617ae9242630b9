-- Noise known only as a range: the line with noises chosen inside the ranges of its tones. Document 02, W9.
-- Assumes nothing.
use Rattle.std.specs.Prelude.{Bool, false, List, [], ◌∷◌, ℕ, suc, ◌≤◌, ◌<◌}
use Rattle.line.specs.declared.Numbers.{Numbers}
use Rattle.line.specs.declared.Kind.{Kind}
use Rattle.line.specs.declared.Kind.TheVariants.{Pair, Single, Read}
use Rattle.line.specs.declared.Tone.{Tone}
use Rattle.line.specs.Tone.{noise_of, has_noise}
use Rattle.line.specs.Line.{Entry, undescribed, described, Line, entry_of}

-- whole numbers with another noise
abbrev pub numbers_with : (noise : ℕ) → Numbers → Numbers
numbers_with noise n = record { noise = noise; gain = n.gain; cap = n.cap; mask = n.mask }

-- a tone with another noise; one with a reading has none to change
abbrev pub kind_with : (noise : ℕ) → Kind → Kind
kind_with noise (Pair n) = Pair (numbers_with noise n)
kind_with noise (Single n) = Single (numbers_with noise n)
kind_with noise (Read n) = Read n

abbrev pub with_noise : (noise : ℕ) → Tone → Tone
with_noise noise t = record { kind = kind_with noise t.kind }

abbrev pub entry_with : (noise : ℕ) → Entry → Entry
entry_with noise undescribed = undescribed
entry_with noise (described t a) = described (with_noise noise t) a

-- W9: 'only for tones of 04, 05 or their twins'
abbrev pub entry_has_noise : Entry → Bool
entry_has_noise undescribed = false
entry_has_noise (described t a) = has_noise t.kind

-- 'the highest noise beside the usual one': the ends of a tone's range. Of a tone with a reading, and of one not described, both are 0.
abbrev pub entry_low : Entry → ℕ
entry_low undescribed = 0
entry_low (described t a) = noise_of t.kind

abbrev pub entry_high : Entry → ℕ
entry_high undescribed = 0
entry_high (described t a) = a.high

abbrev pub low_noise : Line → (i : ℕ) → ℕ
low_noise l i = entry_low (entry_of l i)

abbrev pub high_noise : Line → (i : ℕ) → ℕ
high_noise l i = entry_high (entry_of l i)

-- a 'choice of noises inside the ranges': a noise for each tone
pub record Inside (l : Line) (choice : ℕ → ℕ) : Type 0 where
  pub low : (i : ℕ) → i < l.size → low_noise l i ≤ choice i
  pub high : (i : ℕ) → i < l.size → choice i ≤ high_noise l i

-- entries from number i on, each with its chosen noise
unfoldable pub entries_with : (choice : ℕ → ℕ) → (i : ℕ) → List Entry → List Entry
entries_with choice i [] = []
entries_with choice i (e ∷ es) = entry_with (choice i) e ∷ entries_with choice (suc i) es

-- the line with chosen noises, all else as it was
abbrev pub with_noises : (choice : ℕ → ℕ) → Line → Line
with_noises choice l = record { size = l.size; gap = l.gap; budget = l.budget; entries = entries_with choice 0 l.entries; maps = l.maps }

-- 'A guarded loading uses every high noise': the line that it loads
abbrev pub at_high : Line → Line
at_high l = with_noises (high_noise l) l
