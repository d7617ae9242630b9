-- The bytes of a line's limits: how many they are, those of one tone as the code finds them, and how they are written.
-- Assumes nothing.
use mathlib.Core.List.{List, [], ◌∷◌}
use mathlib.Core.Path.{◌≡◌, refl, ap, ◌∙◌}
use Prim.Native.Nat.{ℕ, ◌+◌, ◌*◌}
use native.Mathlib.Omega.{arith}
use lib.ListN.{length}
use lib.Seq.{sets}
use Rattle.sizes.specs.Sizes.{limit_bytes_a_tone}
use Rattle.lists.specs.Joined.{joined_below}
use Rattle.lists.proofs.Joined.{length-even, Written, written_none, written_next}
use Rattle.silence.specs.Map.{silenced}
use Rattle.line.specs.declared.SetBy.{SetBy}
use Rattle.line.specs.declared.SetBy.TheVariants.{Silent, Cap, Mask}
use Rattle.line.specs.declared.Steps.{Steps}
use Rattle.line.specs.Line.{Line, gap_of, entry_of, steps_at}
use Rattle.line.proofs.Arrays.{limit-same}
use Rattle.rows.specs.declared.Header.{Header}
use Rattle.sheet.specs.declared.Index.{Index}
use Rattle.sheet.specs.Reading.{accepted, said}
use Rattle.sheet.specs.Index.{Indexed}
use Rattle.sheet.proofs.Sound.{Bytes}
use Rattle.sheet.proofs.Uses.{size_is}
use Rattle.arrays.proofs.Indexed.{SoundIndex, sound-index}
use Rattle.limits.specs.Limits.{set_by_number, set_by_of, limit_entry, limit_bytes}

-- a number that was written is read as the case that it stands for
pub read_back : (by : SetBy) → set_by_of (set_by_number by) ≡ by
read_back Silent = refl
read_back Cap = refl
read_back Mask = refl

-- so many bytes a tone
pub length-limits : (l : Line) → length (limit_bytes l) ≡ limit_bytes_a_tone * l.size
length-limits l = length-even (limit_entry l) limit_bytes_a_tone (λ i. refl) l.size

-- what is found of tone i tells its 2 bytes
entry_found : (l : Line) (i : ℕ) (x : Steps) → x ≡ steps_at l i → x.limit.bits ∷ set_by_number x.limit.by ∷ [] ≡ limit_entry l i
entry_found l i x e = rw (e, limit-same (gap_of l) (entry_of l i) (silenced l.maps i))

-- ---- as the code goes

-- an index of a sheet, and the limits of the first i tones of its line in the buffer
pub record WritingOf (s : List ℕ) (h : Header) (x : Index) (out₀ out : List ℕ) (i : ℕ) : Type 0 where
  pub index : SoundIndex s h x
  pub entries : Written (limit_entry index.indexed.line) out₀ 0 i out (limit_bytes_a_tone * i)

pub writing-starts : {s : List ℕ} {h : Header} {x : Index} → Bytes s → Indexed s h x → (out : List ℕ) → WritingOf s h x out out 0
writing-starts b I out = record { index = sound-index b I; entries = written_none (limit_entry I.line) out 0 }

module _ {s : List ℕ} {h : Header} {x : Index} {out₀ out : List ℕ} {i : ℕ} (W : WritingOf s h x out₀ out i) where
  abbrev line : Line
  line = W.index.indexed.line

  -- one tone more
  pub written-limit : (steps : Steps) → steps ≡ steps_at line i → {out' : List ℕ} → out' ≡ sets out (limit_bytes_a_tone * i) (steps.limit.bits ∷ set_by_number steps.limit.by ∷ [])
      → WritingOf s h x out₀ out' (i + 1)
  written-limit steps e stored = record {
    index = W.index;
    entries = written_next (limit_entry line) out₀ 0 W.entries (omega arith) (stored ∙ ap (sets out (limit_bytes_a_tone * i)) (entry_found line i steps e));
  }

  -- all of them are written
  pub written-limits : i ≡ h.size → (l : Line) → said s ≡ accepted l → out ≡ sets out₀ 0 (limit_bytes l)
  written-limits all l e =
      let same : line ≡ l = cc W.index.indexed.means in
      let n : i ≡ line.size = omega (arith, size_is W.index.indexed) in
      W.entries.stores ∙ ap (λ (k : ℕ). sets out₀ 0 (joined_below (limit_entry line) k)) n ∙ ap (λ (k : Line). sets out₀ 0 (limit_bytes k)) same
