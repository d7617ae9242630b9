-- What a caller has of the array of a sheet: the line that it holds, or the sheet's refusal.
-- Assumes nothing.
use mathlib.Core.List.{List}
use mathlib.Core.Path.{◌≡◌, refl, ap, sym}
use native.Mathlib.Omega.{arith}
use Prim.Native.Nat.{ℕ}
use Rattle.std.specs.Prelude.{Ok, Err}
use Rattle.line.specs.Line.{Line, LineInRange}
use Rattle.line.specs.Arrays.{Arrays, ArraysOf}
use Rattle.refusals.specs.declared.Refusal.{Refusal}
use Rattle.rows.specs.declared.Header.{Header}
use Rattle.sheet.specs.declared.Index.{Index}
use Rattle.sheet.specs.Reading.{Meaning, accepted, refused, header_of, said, reading}
use Rattle.sheet.proofs.Uses.{ReadLine}
use Rattle.arrays.specs.Tones.{HoldsLineOf, LeavesTones, TonesOf}

-- ---- as the code leaves them

pub tones-held : {s : List ℕ} {h : Header} {x : Index} (old new : Arrays) → ReadLine s h x → HoldsLineOf (said s) new → TonesOf (Ok h) old new (reading s)
tones-held old new R holds = rw R.means (record { leaves = (ap Ok (sym R.index.header_is), rw R.index.means at holds) })

pub tones-refused : (A : Arrays) {m : Meaning} {q : Refusal} → m ≡ refused q → TonesOf (Err q) A A m
tones-refused A e = rw e (record { leaves = (refl, refl) })

-- ---- for a caller

-- the line of a sheet that was accepted, with its array
pub record HeldLine (h : Header) (A : Arrays) (m : Meaning) : Type 0 where
  pub line : Line
  pub means : m ≡ accepted line
  pub header_is : header_of line ≡ h
  pub in_range : LineInRange line
  pub arrays_of : ArraysOf line A

module _ {old new : Arrays} where
  pub held-line : {h : Header} (m : Meaning) → TonesOf (Ok h) old new m → HeldLine h new m
  held-line {h} m x = by m x.leaves
    where
      by : (m : Meaning) → LeavesTones (Ok h) old new m → HeldLine h new m
      by (accepted l) y = record { line = l; means = refl; header_is = cc y.0; in_range = y.1.0; arrays_of = y.1.1 }
      by (refused q) y = let z : ◌≡◌ {A = ℕ} 0 1 = cc y.0 in absurd (omega arith)

  pub was-refused : {q : Refusal} (m : Meaning) → TonesOf (Err q) old new m → m ≡ refused q
  was-refused {q} m x = by m x.leaves
    where
      by : (m : Meaning) → LeavesTones (Err q) old new m → m ≡ refused q
      by (accepted l) y = let z : ◌≡◌ {A = ℕ} 0 1 = cc y.0 in absurd (omega arith)
      by (refused p) y = cc y.0
