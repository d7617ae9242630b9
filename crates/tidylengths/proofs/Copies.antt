-- What is written of a sheet's tones are the tones of the tidy form of the line that the sheet's index stands for.
-- Assumes nothing.
use mathlib.Core.Bool.{cond}
use mathlib.Core.List.{List, [], ◌∷◌, ◌++◌, append_assoc, append-nil}
use mathlib.Core.Path.{◌≡◌, refl, sym, ap, ◌∙◌}
use Prim.Native.Nat.{ℕ, zero, suc, ◌+◌, ◌*◌, ◌/◌, ◌%◌, ◌≤◌, ◌<◌}
use native.Mathlib.Nat.{add-zero, add_assoc}
use native.Mathlib.Omega.{arith}
use borrow.Author.Tests.{eq-eqb}
use lib.Dec.{eqb}
use lib.ListN.{get_or}
use Rattle.lists.specs.Joined.{joined_below}
use Rattle.lists.proofs.Joined.{joined_same}
use Rattle.bigendian.specs.Number.{number, bytes}
use Rattle.bigendian.proofs.Numbers.{number-there}
use Rattle.line.specs.Tone.{noise_of, KindInRange}
use Rattle.line.specs.Line.{Line, gap_of, EntryInRange, LineInRange}
use Rattle.addresses.specs.Addresses.{code_of, number_width, short_of, carried_at}
use Rattle.rows.specs.Rows.{Operand, Row, width, rest_operand, rest, high_operand, high}
use Rattle.rows.specs.Codes.{ToneCode, RestCode, HighCode, tone_operands, command_bytes}
use Rattle.rows.proofs.Judging.{tone-row, rest-row, high-row}
use Rattle.places.specs.Places.{tone_at, rest_at, rest_from, high_at, high_from, entry_at}
use Rattle.sheet.specs.declared.Index.{Index}
use Rattle.sheet.specs.Index.{ToneStands, RestStands, HighStands, noted_of, Indexes}
use Rattle.sheet.proofs.Sound.{Bytes}
use Rattle.tidyform.specs.Tidy.{operand_bytes, written, tidy_width, kind_row, kind_values, rest_bytes, high_bytes, entry_bytes, tone_bytes}
use Rattle.tidyform.proofs.Parts.{kind_short, row_is}
use Rattle.tidyform.proofs.Written.{Stand}
use Rattle.tidyform.proofs.Tones.{tone-read}
use Rattle.tidylengths.specs.Copies.{part, Inside, carried_bytes, command_copy, rest_copy, high_copy, entry_copy, copies, AllInside}

-- ---- parts of a sheet

-- a part and the part after it
parts : (s : List ℕ) (at w to v n : ℕ) → at + w ≡ to → w + v ≡ n → part s at w ++ part s to v ≡ part s at n
unfolding joined_below
parts s at w to v n e f = rw (sym e, sym f) (join v)
  where
    join : (v : ℕ) → part s at w ++ part s (at + w) v ≡ part s at (w + v)
    join zero = append-nil (part s at w) ∙ simp add-zero
    join (suc v) =
        let z : w + suc v ≡ suc (w + v) = omega arith in
        rw (z, sym (append_assoc (part s at w) (part s (at + w) v) (get_or s (at + w + v) 0 ∷ [])), join v, add_assoc)

-- a number's bytes are those that it was read from
bytes-number : (s : List ℕ) → Bytes s → (at w : ℕ) → bytes w (number s at w) ≡ part s at w
unfolding joined_below number bytes
bytes-number s b at zero = refl
bytes-number s b at (suc w) =
    let n = number s at w in
    let x = get_or s (at + w) 0 in
    let h = b (at + w) in
    let high : (n * 256 + x) / 256 ≡ n = omega arith in
    let low : (n * 256 + x) % 256 ≡ x = omega arith in
    rw (high, low, bytes-number s b at w)

-- ---- the commands of a tone

-- how many bytes they have, by the width of the tone's number
tone-bytes : (code : ℕ) → ToneCode code → command_bytes code ≡ 1 + (number_width code + width (tone_operands (short_of code)))
tone-bytes code h = ap (λ (r : Row). 1 + width r.operands) (sym (tone-row code h))

rest-bytes : (code : ℕ) → RestCode code → command_bytes code ≡ 1 + (number_width code + 4)
rest-bytes code h = ap (λ (r : Row). 1 + width r.operands) (sym (rest-row code h))

high-bytes : (code : ℕ) → HighCode code → command_bytes code ≡ 1 + (number_width code + 2)
high-bytes code h = ap (λ (r : Row). 1 + width r.operands) (sym (high-row code h))

tone-inside : (s : List ℕ) (i place : ℕ) → (0 < place → ToneStands s i place) → Inside s place
tone-inside s i place h = record { numbered = λ k. omega (arith, tone-bytes (get_or s place 0) (h k).code); whole = λ k. (h k).inside }

rest-inside : (s : List ℕ) (i place : ℕ) → (0 < place → RestStands s i place) → Inside s place
rest-inside s i place h = record { numbered = λ k. omega (arith, rest-bytes (get_or s place 0) (h k).code); whole = λ k. (h k).inside }

high-inside : (s : List ℕ) (i place : ℕ) → (0 < place → HighStands s i place) → Inside s place
high-inside s i place h = record { numbered = λ k. omega (arith, high-bytes (get_or s place 0) (h k).code); whole = λ k. (h k).inside }

module _ (s : List ℕ) (b : Bytes s) where
  -- operands that stand there are written with the bytes that they were read from
  operands-back : (at : ℕ) (os : List Operand) (vs : List ℕ) → Stand s at os vs → operand_bytes os vs ≡ part s at (width os)
  unfolding joined_below
  operands-back at [] vs st = refl
  operands-back at (o ∷ os) [] st = absurd st
  operands-back at (o ∷ os) (v ∷ vs) st =
      rw (sym st.0, bytes-number s b at o.width, operands-back (at + o.width) os vs st.1) (parts s at o.width (at + o.width) (width os) (width (o ∷ os)) refl refl)

  -- the command of a tone: its kind's, with what it carries copied
  tone-copy : (i at : ℕ) → ToneStands s i at → (let k = (tone_at s at).kind in
      KindInRange k → written (kind_row (tidy_width i) k) (i ∷ kind_values k) ≡ command_copy s i at)
  tone-copy i at h I =
      let c = tone-read s at i b h I in
      let k = (tone_at s at).kind in
      let os = tone_operands (kind_short k) in
      let carried : carried_bytes (get_or s at 0) ≡ width os = omega (arith, c.bytes) in
      ap (λ (r : Row). written r (i ∷ kind_values k)) (row_is (tidy_width i) k)
      ∙ same (sym c.short) (operands-back (carried_at s at) os (kind_values k) c.operands ∙ ap (part s (carried_at s at)) (sym carried))
    where
      same : {short short' : ℕ} {xs ys : List ℕ} → short ≡ short' → xs ≡ ys
          → code_of (tidy_width i) short ∷ (bytes (tidy_width i) i ++ xs) ≡ code_of (tidy_width i) short' ∷ (bytes (tidy_width i) i ++ ys)
      same e f = rw (e, f)

  rest-copy : (i at : ℕ) → RestStands s i at → written (rest (tidy_width i)) (i ∷ rest_at s at ∷ []) ≡ command_copy s i at
  rest-copy i at h =
      let bytes-are = rest-bytes (get_or s at 0) h.code in
      let carried : carried_bytes (get_or s at 0) ≡ 4 = omega (arith, bytes-are) in
      let value = sym (number-there s (carried_at s at) 4 (omega arith) (omega (arith, bytes-are, h.inside))) in
      rw (h.code, carried, sym (operands-back (carried_at s at) (rest_operand ∷ []) (rest_at s at ∷ []) (value, tt)))

  -- none is written where the rest is 0
  rest-copied : (i place : ℕ) → (0 < place → RestStands s i place) → rest_bytes i (rest_from s place) ≡ rest_copy s i place
  rest-copied i zero h = refl
  rest-copied i (suc p) h = ap (λ (xs : List ℕ). cond (eqb (rest_from s (suc p)) 0) [] xs) (rest-copy i (suc p) (h (omega arith)))

  high-copy : (i at : ℕ) → HighStands s i at → written (high (tidy_width i)) (i ∷ high_at s at ∷ []) ≡ command_copy s i at
  high-copy i at h =
      let bytes-are = high-bytes (get_or s at 0) h.code in
      let carried : carried_bytes (get_or s at 0) ≡ 2 = omega (arith, bytes-are) in
      let value = sym (number-there s (carried_at s at) 2 (omega arith) (omega (arith, bytes-are, h.inside))) in
      rw (h.code, carried, sym (operands-back (carried_at s at) (high_operand ∷ []) (high_at s at ∷ []) (value, tt)))

  -- none is written where the high noise is the tone's own
  own-noise : (i place : ℕ) → high_copy s i place 0 ≡ []
  own-noise i place = rw (eq-eqb (noise_of (tone_at s place).kind) (noise_of (tone_at s place).kind) refl)

  high-copied : (i place widened : ℕ) → (0 < widened → HighStands s i widened)
      → (let t = tone_at s place in high_bytes i t (high_from s t widened) ≡ high_copy s i place widened)
  high-copied i place zero h = rw (eq-eqb (noise_of (tone_at s place).kind) (noise_of (tone_at s place).kind) refl)
  high-copied i place (suc p) h =
      ap (λ (xs : List ℕ). cond (eqb (high_at s (suc p)) (noise_of (tone_at s place).kind)) [] xs) (high-copy i (suc p) (h (omega arith)))

  entry-copy : (i place rested widened : ℕ) (g : ℕ) → (0 < place → ToneStands s i place) → (0 < rested → RestStands s i rested)
      → (0 < widened → HighStands s i widened) → (place ≡ 0 → rested ≡ 0) → (place ≡ 0 → widened ≡ 0)
      → EntryInRange g (entry_at s place rested widened) → entry_bytes i (entry_at s place rested widened) ≡ entry_copy s i place rested widened
  entry-copy i zero rested widened g h k m none none' R = rw (none refl, none' refl) (sym (own-noise i 0))
  entry-copy i (suc p) rested widened g h k m none none' R =
      all (tone-copy i (suc p) (h (omega arith)) R.0.kind) (rest-copied i rested k) (high-copied i (suc p) widened m)
    where
      all : {xs xs' ys ys' zs zs' : List ℕ} → xs ≡ xs' → ys ≡ ys' → zs ≡ zs' → xs ++ (ys ++ zs) ≡ xs' ++ (ys' ++ zs')
      all e f g = rw (e, f, g)

  -- the tones' commands are those of the line that is indexed
  pub copies-are : {x : Index} {l : Line} → Indexes s x l → LineInRange l → (n : ℕ) → n ≤ l.size → tone_bytes n l.entries ≡ copies n s x.tones
  copies-are {x} {l} is I n h = joined_same _ _ n (λ i k.
      let noted = noted_of x i in
      let R = rw (is.entry i) at (I.entries i (omega arith)) in
      rw (is.entry i)
      (entry-copy i noted.own noted.rest noted.high (gap_of l) (is.stands i) (is.rest_stands i) (is.high_stands i) (is.no_rest i) (is.no_high i) R))

-- where the commands of a tone that are noted stand, they are all there
pub noted-inside : {s : List ℕ} {x : Index} {l : Line} → Indexes s x l → (i : ℕ) → AllInside s (noted_of x i)
noted-inside {s} {x} is i =
    let noted = noted_of x i in
    record {
      own = tone-inside s i noted.own (is.stands i);
      rest = rest-inside s i noted.rest (is.rest_stands i);
      high = high-inside s i noted.high (is.high_stands i);
    }
