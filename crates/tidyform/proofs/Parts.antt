-- The parts of the tidy form: how long each is, and how the lists of them grow. Assumes nothing.
use mathlib.Core.Path.{◌≡◌, refl, ap, ◌∙◌}
use mathlib.Core.Bool.{Bool, true, false, cond}
use mathlib.Core.List.{List, [], ◌∷◌, ◌++◌}
use mathlib.Core.Logic.{inl, inr}
use Prim.Native.Nat.{ℕ, ◌+◌, ◌^◌, ◌≤◌, ◌<◌}
use native.Mathlib.Nat.{le_trans}
use native.Mathlib.Omega.{arith}
use borrow.Author.Tests.{ltb-true, ltb-false, eq-eqb, ne_eqb}
use lib.Dec.{ltb, eqb}
use lib.ListN.{length, length-append}
use Rattle.sizes.specs.Sizes.{silence_command}
use Rattle.lists.proofs.Tests.{by-test}
use Rattle.bigendian.specs.Number.{byte_base}
use Rattle.bigendian.proofs.Numbers.{length-bytes}
use Rattle.addresses.specs.Addresses.{twin}
use Rattle.addresses.proofs.Widths.{IsWidth}
use Rattle.readings.specs.declared.Reading.{Reading}
use Rattle.readings.specs.declared.Reading.TheVariants.{Both, Ratio}
use Rattle.line.specs.declared.Kind.{Kind}
use Rattle.line.specs.declared.Kind.TheVariants.{Pair, Single, Read}
use Rattle.line.specs.declared.Tone.{Tone}
use Rattle.line.specs.Tone.{noise_of}
use Rattle.line.specs.Line.{Added, described}
use Rattle.rows.specs.Rows.{describing, rest, high, width}
use Rattle.rows.specs.Codes.{tone_operands, silence_row}
use Rattle.tidyform.specs.Tidy.{written, tidy_width, reading_row, reading_bits, kind_row, kind_values, rest_bytes, high_bytes, entry_bytes, word_bytes}

-- A command.

-- the width that a tidy sheet has for a tone is enough for its number, and no other that is enough is smaller
module _ (i : ℕ) where
  abbrev by_size : (P : ℕ → Type 0) → (i < byte_base → P 1) → (byte_base ≤ i → P 2) → P (tidy_width i)
  by_size P short twin = by-test P (ltb i byte_base) (λ e. short (ltb-true i byte_base e)) (λ e. twin (ltb-false i byte_base e))

  pub tidy-is-width : IsWidth (tidy_width i)
  tidy-is-width = by_size IsWidth (λ h. inl refl) (λ h. inr refl)

  pub tidy-low : 1 ≤ tidy_width i
  tidy-low = by_size (λ w. 1 ≤ w) (λ h. omega arith) (λ h. omega arith)

  pub tidy-fits : i < byte_base ^ 2 → i < byte_base ^ tidy_width i
  tidy-fits small = by_size (λ w. i < byte_base ^ w) (λ h. omega arith) (λ h. omega arith)

  pub tidy-least : (w : ℕ) → IsWidth w → i < byte_base ^ w → tidy_width i ≤ w
  tidy-least w (inl e) small = by_size (λ v. v ≤ w) (λ h. omega arith) (λ h. absurd (omega (arith, rw e at small)))
  tidy-least w (inr e) small = by_size (λ v. v ≤ w) (λ h. omega arith) (λ h. omega arith)

-- the byte of the short command that describes a tone of a kind; what it carries after the tone's number is the byte's
abbrev pub reading_short : Reading → ℕ
reading_short (Both l) = 0x09
reading_short (Ratio x) = 0x0a

abbrev pub kind_short : Kind → ℕ
kind_short (Pair n) = 0x04
kind_short (Single n) = 0x05
kind_short (Read n) = reading_short n.reading

pub row_is : (w : ℕ) (k : Kind) → kind_row w k ≡ describing w (kind_short k) (tone_operands (kind_short k))
row_is w (Pair n) = refl
row_is w (Single n) = refl
row_is w (Read n) = by n.reading
  where
    by : (r : Reading) → reading_row w r ≡ describing w (reading_short r) (tone_operands (reading_short r))
    by (Both l) = refl
    by (Ratio x) = refl

pub short-small : (k : Kind) → kind_short k < twin
short-small (Pair n) = omega arith
short-small (Single n) = omega arith
short-small (Read n) = by n.reading
  where
    by : (r : Reading) → reading_short r < twin
    by (Both l) = omega arith
    by (Ratio x) = omega arith

-- a tone's command has the bytes of its kind's row
pub length-described : (w i : ℕ) (k : Kind) → length (written (kind_row w k) (i ∷ kind_values k)) ≡ 1 + width (kind_row w k).operands
length-described w i (Pair n) = simp (length-append, length-bytes) (omega arith)
length-described w i (Single n) = simp (length-append, length-bytes) (omega arith)
length-described w i (Read n) = by n.reading
  where
    by : (r : Reading) → length (written (reading_row w r) (i ∷ (reading_bits r ++ (n.cap ∷ n.mask ∷ [])))) ≡ 1 + width (reading_row w r).operands
    by (Both l) = simp (length-append, length-bytes) (omega arith)
    by (Ratio x) = simp (length-append, length-bytes) (omega arith)

-- a command that a test leaves out has at most its bytes
length-unless : (t : Bool) (command : List ℕ) → length (cond t [] command) ≤ length command
length-unless true command = omega arith
length-unless false command = omega arith

pub length-rest-le : (i r : ℕ) → length (rest_bytes i r) ≤ 1 + width (rest (tidy_width i)).operands
length-rest-le i r = le_trans (length-unless (eqb r 0) (written (rest (tidy_width i)) (i ∷ r ∷ []))) (simp (length-append, length-bytes) (omega arith))

pub length-high-le : (i : ℕ) (t : Tone) (h : ℕ) → length (high_bytes i t h) ≤ 1 + width (high (tidy_width i)).operands
length-high-le i t h =
    le_trans (length-unless (eqb h (noise_of t.kind)) (written (high (tidy_width i)) (i ∷ h ∷ []))) (simp (length-append, length-bytes) (omega arith))

-- a tone's own noise has none
pub length-no-high : (i : ℕ) (t : Tone) → length (high_bytes i t (noise_of t.kind)) ≡ 0
length-no-high i t = rw (eq-eqb (noise_of t.kind) (noise_of t.kind) refl)

-- a described tone has its command's bytes, its rest's and its high noise's
pub length-entry : (i : ℕ) (t : Tone) (a : Added) → length (entry_bytes i (described t a))
    ≡ 1 + width (kind_row (tidy_width i) t.kind).operands + (length (rest_bytes i a.rest) + length (high_bytes i t a.high))
length-entry i t a =
    let command = written (kind_row (tidy_width i) t.kind) (i ∷ kind_values t.kind) in
    let rests = rest_bytes i a.rest in
    let highs = high_bytes i t a.high in
    omega (arith, length-append command (rests ++ highs), length-append rests highs, length-described (tidy_width i) i t.kind)

pub no_word : (word : ℕ) {map : ℕ} → map ≡ 0 → word_bytes word map ≡ []
no_word word {map} e = rw (eq-eqb map 0 e)

pub some_word : (word : ℕ) {map : ℕ} → (map ≡ 0 → ⊥) → word_bytes word map ≡ written silence_row (word ∷ map ∷ [])
some_word word {map} n = rw (ne_eqb map 0 n)

pub length-word : (word : ℕ) {map : ℕ} → (map ≡ 0 → ⊥) → length (word_bytes word map) ≡ silence_command
length-word word {map} n = ap length (some_word word n) ∙ simp (length-append, length-bytes)

pub length-no-word : (word : ℕ) {map : ℕ} → map ≡ 0 → length (word_bytes word map) ≡ 0
length-no-word word e = ap length (no_word word e)

pub length-word-le : (word map : ℕ) → length (word_bytes word map) ≤ silence_command
length-word-le word map = le_trans (length-unless (eqb map 0) (written silence_row (word ∷ map ∷ []))) (simp (length-append, length-bytes) (omega arith))
