-- A tone's command in a sheet: where what it carries stands, the sheet has the tone; and where a tone's command stands, what that tone carries
-- does.
-- Assumes nothing.
use mathlib.Core.Path.{◌≡◌, refl, sym, ap, subst, ◌∙◌}
use mathlib.Core.Bool.{Bool, false, true}
use mathlib.Core.List.{List, [], ◌∷◌, ◌++◌}
use mathlib.Core.Logic.{inl, inr}
use Prim.Native.Nat.{ℕ, ◌+◌, ◌^◌, ◌≤◌, ◌<◌}
use native.Mathlib.Omega.{arith}
use lib.Ieee.{Float, binary32, to_bits}
use lib.ListN.{length, get_or}
use Rattle.bigendian.specs.Number.{number}
use Rattle.bigendian.proofs.Numbers.{byte-from, number_lt, number-there, number-from}
use Rattle.readings.specs.declared.Reading.{Reading}
use Rattle.readings.specs.declared.Reading.TheVariants.{Both, Ratio}
use Rattle.readings.specs.Reading.{float_of, FloatInRange, Usable}
use Rattle.readings.proofs.Readings.{float_back, in-range-usable, bits_back}
use Rattle.line.specs.declared.Numbers.{Numbers}
use Rattle.line.specs.declared.Kind.{Kind}
use Rattle.line.specs.declared.Kind.TheVariants.{Pair, Single, Read}
use Rattle.line.specs.declared.Tone.{Tone}
use Rattle.line.specs.Tone.{KindInRange}
use Rattle.addresses.specs.Addresses.{code_of, number_width, short_of, carried_at}
use Rattle.addresses.proofs.Widths.{IsWidth, width_back, short_back}
use Rattle.rows.specs.Rows.{Row, numbers, level_operands, ratio_operands, width}
use Rattle.rows.specs.Codes.{ShortToneCode, tone_operands, command_bytes}
use Rattle.rows.proofs.Judging.{tone-row}
use Rattle.places.specs.Places.{numbers_at, float_at, levels_at, ratio_at, kind_at, tone_at}
use Rattle.sheet.specs.Index.{ToneStands}
use Rattle.sheet.proofs.Sound.{Bytes}
use Rattle.tidyform.specs.Tidy.{reading_bits, kind_row, kind_values}
use Rattle.tidyform.proofs.Parts.{reading_short, kind_short, row_is, short-small}
use Rattle.tidyform.proofs.Written.{Stand}

module _ (s : List ℕ) (from : ℕ) where
  -- ---- from the operands to the tone

  numbers-stand : (n : Numbers) (is_single : Bool) → from + width (numbers is_single) ≤ length s
      → Stand s from (numbers is_single) (n.noise ∷ n.gain ∷ n.cap ∷ n.mask ∷ []) → numbers_at s from ≡ n
  numbers-stand n is_single whole st =
      rw (
        number-there s from 2 (omega arith) (omega arith) ∙ st.0,
        number-there s (from + 2) 2 (omega arith) (omega arith) ∙ st.1.0,
        byte-from s from 4 (from + 2 + 2) (omega arith) ∙ st.1.1.0,
        number-from s from 13 5 8 (from + 2 + 2 + 1) whole (omega arith) (omega arith) (omega arith) ∙ st.1.1.1.0,
      )

  -- a float that stands so many bytes on
  float-stands : (x : Float) (at : ℕ) → FloatInRange x → at + 4 ≤ length s → number s at 4 ≡ to_bits binary32 x → float_at s at ≡ x
  float-stands x at R inside st = ap float_of (number-there s at 4 (omega arith) inside ∙ st) ∙ float_back x R

  read-stands : (r : Reading) (c m : ℕ) → Usable r → from + width (tone_operands (reading_short r)) ≤ length s
      → Stand s from (tone_operands (reading_short r)) (reading_bits r ++ (c ∷ m ∷ [])) → kind_at (reading_short r) s from ≡ Read (record { reading = r; cap = c; mask = m })
  read-stands (Both l) c m u whole st =
      rw (
        float-stands l.noise from u.0 (omega arith) st.0,
        float-stands l.gain (from + 4) u.1 (omega arith) st.1.0,
        byte-from s from 8 (from + 4 + 4) (omega arith) ∙ st.1.1.0,
        number-from s from 17 9 8 (from + 4 + 4 + 1) whole (omega arith) (omega arith) (omega arith) ∙ st.1.1.1.0,
      )
  read-stands (Ratio x) c m u whole st =
      rw (
        float-stands x from u (omega arith) st.0,
        byte-from s from 4 (from + 4) (omega arith) ∙ st.1.0,
        number-from s from 13 5 8 (from + 4 + 1) whole (omega arith) (omega arith) (omega arith) ∙ st.1.1.0,
      )

  kind-stands : (k : Kind) → KindInRange k → from + width (tone_operands (kind_short k)) ≤ length s → Stand s from (tone_operands (kind_short k)) (kind_values k)
      → kind_at (kind_short k) s from ≡ k
  kind-stands (Pair n) I whole st = ap Pair (numbers-stand n false whole st)
  kind-stands (Single n) I whole st = ap Single (numbers-stand n true whole st)
  kind-stands (Read n) I whole st = read-stands n.reading n.cap n.mask I.usable whole st

  -- ---- from the tone to the operands

  numbers-read : (is_single : Bool) → from + width (numbers is_single) ≤ length s → (let n = numbers_at s from in
      Stand s from (numbers is_single) (n.noise ∷ n.gain ∷ n.cap ∷ n.mask ∷ []))
  numbers-read is_single whole = (
    sym (number-there s from 2 (omega arith) (omega arith)),
    (
      sym (number-there s (from + 2) 2 (omega arith) (omega arith)),
      (
        sym (byte-from s from 4 (from + 2 + 2) (omega arith)),
        (sym (number-from s from 13 5 8 (from + 2 + 2 + 1) whole (omega arith) (omega arith) (omega arith)), tt),
      ),
    ),
  )

  module _ (b : Bytes s) where
    -- the bits of a float in range are those that it was read from
    float_read : (at : ℕ) → FloatInRange (float_at s at) → at + 4 ≤ length s → number s at 4 ≡ to_bits binary32 (float_at s at)
    float_read at R inside =
        let is = number-there s at 4 (omega arith) inside in
        let small : number s at 4 < 2 ^ 32 = omega (arith, number_lt s at 4 (λ j h. b (at + j))) in
        rw is (sym (bits_back (number s at 4) (in-range-usable (number s at 4) (rw is at R)) small))

    levels-read : Usable (levels_at s from).reading → from + width level_operands ≤ length s → (let n = levels_at s from in
        Stand s from level_operands (reading_bits n.reading ++ (n.cap ∷ n.mask ∷ [])))
    levels-read u whole = (
      float_read from u.0 (omega arith),
      (
        float_read (from + 4) u.1 (omega arith),
        (
          sym (byte-from s from 8 (from + 4 + 4) (omega arith)),
          (sym (number-from s from 17 9 8 (from + 4 + 4 + 1) whole (omega arith) (omega arith) (omega arith)), tt),
        ),
      ),
    )

    ratio-read : Usable (ratio_at s from).reading → from + width ratio_operands ≤ length s → (let n = ratio_at s from in
        Stand s from ratio_operands (reading_bits n.reading ++ (n.cap ∷ n.mask ∷ [])))
    ratio-read u whole = (
      float_read from u (omega arith),
      (
        sym (byte-from s from 4 (from + 4) (omega arith)),
        (sym (number-from s from 13 5 8 (from + 4 + 1) whole (omega arith) (omega arith) (omega arith)), tt),
      ),
    )

    -- what a short command of a byte carries, from a place on: the byte is that of the tone's kind, and its operands stand there
    record Carries (short : ℕ) (k : Kind) : Type 0 where
      own : short ≡ kind_short k
      operands : Stand s from (tone_operands short) (kind_values k)

    carried-read : (short : ℕ) → ShortToneCode short → from + width (tone_operands short) ≤ length s → KindInRange (kind_at short s from)
        → Carries short (kind_at short s from)
    carried-read short (inl (inl e)) = rw e (λ whole I. record { own = refl; operands = numbers-read false whole })
    carried-read short (inl (inr e)) = rw e (λ whole I. record { own = refl; operands = numbers-read true whole })
    carried-read short (inr (inl e)) = rw e (λ whole I. record { own = refl; operands = levels-read I.usable whole })
    carried-read short (inr (inr e)) = rw e (λ whole I. record { own = refl; operands = ratio-read I.usable whole })

-- the tone whose command stands at a place, in either width
pub tone-stands : (s : List ℕ) (at w i : ℕ) (k : Kind) → IsWidth w → KindInRange k → get_or s at 0 ≡ (kind_row w k).code → at + 1 + width (kind_row w k).operands ≤ length s
    → Stand s (at + 1) (kind_row w k).operands (i ∷ kind_values k) → tone_at s at ≡ record { kind = k }
tone-stands s at w i k wide I code whole st =
    let short = kind_short k in
    let is : get_or s at 0 ≡ code_of w short = code ∙ ap (λ (r : Row). r.code) (row_is w k) in
    let operands = (rw (row_is w k) at st).1 in
    let inside : at + 1 + (w + width (tone_operands short)) ≤ length s = rw (row_is w k) at whole in
    rw (is, width_back w short wide (short-small k), short_back w short wide (short-small k))
    (ap (λ (x : Kind). tone x) (kind-stands s (at + 1 + w) k I (omega arith) operands))
  where
    tone : Kind → Tone
    tone x = record { kind = x }

-- what the command of a tone carries: its short command is that of the tone's kind, it has its bytes, and its operands stand after the tone's number
pub record Carried (s : List ℕ) (at : ℕ) (k : Kind) : Type 0 where
  pub short : short_of (get_or s at 0) ≡ kind_short k
  pub bytes : command_bytes (get_or s at 0) ≡ 1 + (number_width (get_or s at 0) + width (tone_operands (kind_short k)))
  pub operands : Stand s (carried_at s at) (tone_operands (kind_short k)) (kind_values k)

pub tone-read : (s : List ℕ) (at i : ℕ) → Bytes s → ToneStands s i at → KindInRange (tone_at s at).kind → Carried s at (tone_at s at).kind
tone-read s at i b h I =
    let code = get_or s at 0 in
    let row = tone-row code h.code in
    let bytes : command_bytes code ≡ 1 + (number_width code + width (tone_operands (short_of code))) = ap (λ (r : Row). 1 + width r.operands) (sym row) in
    let c = carried-read s (carried_at s at) b (short_of code) h.code (omega (arith, bytes, h.inside)) I in
    record {
      short = c.own;
      bytes = bytes ∙ ap (λ (short : ℕ). 1 + (number_width code + width (tone_operands short))) c.own;
      operands = subst (λ (short : ℕ). Stand s (carried_at s at) (tone_operands short) (kind_values (tone_at s at).kind)) c.own c.operands;
    }
