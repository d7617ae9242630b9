-- Silence maps. Document 01, 'The line sheet'.
-- Assumes nothing.
use Rattle.std.specs.Prelude.{Bool, true, false, ◌&&◌, ◌||◌, List, ℕ, zero, suc, ◌+◌, ◌*◌, ◌/◌, ◌%◌, ◌^◌, eqb, leb, get_or, set}
use Rattle.std.specs.Int.Bits.{bit_or}
use Rattle.sizes.specs.Sizes.{word_tones}

-- bit k of a map, 0 or 1
abbrev pub bit : (map k : ℕ) → ℕ
bit map k = map / 2 ^ k % 2

-- 'Bit k of a map (value 2^k) silences tone 32 × word + k': whether the maps, one for each word, silence a tone
abbrev pub silenced : (maps : List ℕ) → (tone : ℕ) → Bool
silenced maps tone = eqb (bit (get_or maps (tone / word_tones) 0) (tone % word_tones)) 1

-- 'Maps of one word join.'
abbrev pub joined : (maps : List ℕ) → (word map : ℕ) → List ℕ
joined maps word map = set maps word (bit_or (get_or maps word 0) map)

-- whether some number below n passes the test
unfoldable pub some : (n : ℕ) → (ℕ → Bool) → Bool
some zero test = false
some (suc n) test = some n test || test n

-- 'a map names such a tone', one that is N or more
unfoldable pub names_beyond : (size word map : ℕ) → Bool
names_beyond size word map = some word_tones (λ k. eqb (bit map k) 1 && leb size (word_tones * word + k))

-- 1 where the test passes
abbrev pub one : Bool → ℕ
one true = 1
one false = 0

-- how many numbers below n pass the test
unfoldable pub count : (n : ℕ) → (ℕ → Bool) → ℕ
count zero test = 0
count (suc n) test = count n test + one (test n)
