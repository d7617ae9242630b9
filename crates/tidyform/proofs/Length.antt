-- How long the tidy form of a line is, and how much longer one more command makes it.
-- Assumes nothing.
use mathlib.Core.List.{List}
use mathlib.Core.Path.{◌≡◌, ap}
use Prim.Native.Nat.{ℕ, zero, suc, ◌+◌, ◌≤◌, ◌<◌}
use native.Mathlib.Decide.{dec_le, ℕ_discrete}
use native.Mathlib.Omega.{arith}
use lib.Bits.{bit_or}
use lib.ListN.{length, get_or, set, length-append}
use lib.Seq.{get_or-set_same, get_or-set_other, set_out}
use Rattle.sizes.specs.Sizes.{words_of, size_command, gap_command, tenths_command, budget_command, silence_command, end_command}
use Rattle.lists.specs.Joined.{joined_below}
use Rattle.lists.proofs.Joined.{joined_same, length_none, length-next}
use Rattle.lists.proofs.Stores.{all_same}
use Rattle.bigendian.proofs.Numbers.{length-bytes}
use Rattle.gaps.specs.declared.Gap.{Gap}
use Rattle.gaps.specs.declared.Gap.TheVariants.{Parts, Tenths}
use Rattle.line.specs.Line.{Entry, undescribed, described, with_rest, with_high, Line, entry_of}
use Rattle.rows.specs.declared.Header.{Header}
use Rattle.rows.specs.declared.Command.TheVariants.{Silence}
use Rattle.rows.specs.Rows.{rest, high, width}
use Rattle.sheet.specs.Reading.{header_of, bare_line, with_entry, effect}
use Rattle.tidyform.specs.Tidy.{tidy_width, entry_bytes, tone_bytes, word_bytes, map_bytes, gap_bytes, head_bytes, tidy}
use Rattle.tidyform.proofs.Parts.{length-rest-le, length-high-le, length-entry, length-word-le}

-- ---- parts that the first entries of a list give, each by its number and its value

module _ {A : Type 0} (absent : A) (part : ℕ → A → List ℕ) where
  abbrev part_at : List A → ℕ → List ℕ
  part_at l i = part i (get_or l i absent)

  abbrev total : ℕ → List A → ℕ
  total n l = length (joined_below (part_at l) n)

  total-zero : (n : ℕ) (l : List A) → ((i : ℕ) → length (part_at l i) ≡ 0) → total n l ≡ 0
  total-zero zero l h = length_none (part_at l)
  total-zero (suc n) l h = omega (arith, length-next (part_at l) n, total-zero n l h, h n)

  -- an entry that comes later does not matter
  set_after : (n : ℕ) (l : List A) (i : ℕ) (v : A) → n ≤ i → total n (set l i v) ≡ total n l
  set_after n l i v h = ap length (joined_same (part_at (set l i v)) (part_at l) n (λ k m. ap (part k) (get_or-set_other l i k v absent (λ e. omega arith))))

  -- an entry that another replaces adds at most what that one's part is longer; past the end nothing changes
  set-adds : (n : ℕ) (l : List A) (i : ℕ) (v : A) (k : ℕ) → length (part i v) ≤ length (part_at l i) + k → total n (set l i v) ≤ total n l + k
  set-adds n l i v k adds = by (dec_le (length l) i)
    where
      inside : i < length l → (n : ℕ) → total n (set l i v) ≤ total n l + k
      inside h zero = omega (arith, length_none (part_at (set l i v)))
      inside h (suc n) = by-dec (ℕ_discrete n i) (inside h n)
        where
          by-dec : Dec (n ≡ i) → total n (set l i v) ≤ total n l + k → total (suc n) (set l i v) ≤ total (suc n) l + k
          by-dec (yes e) ih =
              let here : length (part_at (set l i v) n) ≡ length (part i v) = rw e (ap (λ (x : A). length (part i x)) (get_or-set_same l i v absent h)) in
              let old : length (part_at l n) ≡ length (part_at l i) = rw e in
              omega (arith, length-next (part_at l) n, length-next (part_at (set l i v)) n, set_after n l i v (omega arith))
          by-dec (no m) ih =
              omega (
                arith,
                length-next (part_at l) n,
                length-next (part_at (set l i v)) n,
                ap (λ (x : A). length (part n x)) (get_or-set_other l i n v absent m),
              )

      by : Dec (length l ≤ i) → total n (set l i v) ≤ total n l + k
      by (yes h) = rw (set_out l i v h) (omega arith)
      by (no h) = inside (omega arith) n

-- ---- a tone

-- a rest adds at most its command to its tone, whatever rest the tone had
pub rest-adds : (i r : ℕ) (e : Entry) → length (entry_bytes i (with_rest r e)) ≤ length (entry_bytes i e) + (1 + width (rest (tidy_width i)).operands)
rest-adds i r undescribed = omega arith
rest-adds i r (described t a) = omega (arith, length-entry i t (record { rest = r; high = a.high }), length-entry i t a, length-rest-le i r)

-- and so a high noise
pub high-adds : (i h : ℕ) (e : Entry) → length (entry_bytes i (with_high h e)) ≤ length (entry_bytes i e) + (1 + width (high (tidy_width i)).operands)
high-adds i h undescribed = omega arith
high-adds i h (described t a) = omega (arith, length-entry i t (record { rest = a.rest; high = h }), length-entry i t a, length-high-le i t h)

-- ---- the tidy form

-- 3 bytes for 01, those of the gap, 9 for 03
pub length-head : (h : Header) → length (head_bytes h) ≡ size_command + length (gap_bytes h.gap) + budget_command
unfolding head_bytes
length-head h = simp (length-append, length-bytes)

pub length-parts : (g : ℕ) → length (gap_bytes (Parts g)) ≡ gap_command
unfolding gap_bytes
length-parts g = simp (length-append, length-bytes)

pub length-tenths : (d : ℕ) → length (gap_bytes (Tenths d)) ≡ tenths_command
unfolding gap_bytes
length-tenths d = simp (length-append, length-bytes)

pub length-gap-le : (g : Gap) → length (gap_bytes g) ≤ gap_command
length-gap-le (Parts g) = omega (arith, length-parts g)
length-gap-le (Tenths d) = omega (arith, length-tenths d)

-- with 1 for 07
pub length-tidy : (l : Line) → length (tidy l) ≡ length (head_bytes (header_of l)) + (length (tone_bytes l.size l.entries) + length (map_bytes (words_of l.size) l.maps)) + end_command
unfolding tidy
length-tidy l = simp length-append (omega arith)

-- nothing described and nothing silenced
pub tidy-bare : (h : Header) → length (tidy (bare_line h)) ≡ length (head_bytes h) + end_command
tidy-bare h =
    let words = words_of h.size in
    omega (
      arith,
      length-tidy (bare_line h),
      total-zero undescribed entry_bytes h.size (bare_line h).entries (λ i. ap (λ (e : Entry). length (entry_bytes i e)) (all_same h.size i undescribed)),
      total-zero 0 word_bytes words (bare_line h).maps (λ i. ap (λ (m : ℕ). length (word_bytes i m)) (all_same words i 0)),
    )

-- a tone with another entry
pub tidy-entry : (l : Line) (i : ℕ) (e : Entry) (k : ℕ) → length (entry_bytes i e) ≤ length (entry_bytes i (entry_of l i)) + k
    → length (tidy (with_entry l i e)) ≤ length (tidy l) + k
tidy-entry l i e k adds = omega (arith, length-tidy l, length-tidy (with_entry l i e), set-adds undescribed entry_bytes l.size l.entries i e k adds)

pub tidy-silence : (l : Line) (s : List ℕ) (at word map : ℕ) → length (tidy (effect (Silence word map) s at l)) ≤ length (tidy l) + silence_command
tidy-silence l s at word map =
    let both = bit_or (get_or l.maps word 0) map in
    omega (
      arith,
      length-tidy l,
      length-tidy (effect (Silence word map) s at l),
      set-adds 0 word_bytes (words_of l.size) l.maps word both silence_command (omega (arith, length-word-le word both)),
    )
