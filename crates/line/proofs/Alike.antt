-- Lines that differ only in how their gap is given are different lines, and load alike.
-- Assumes nothing.
use mathlib.Core.Path.{◌≡◌, ap}
use Prim.Native.Nat.{ℕ}
use native.Mathlib.Omega.{arith}
use Rattle.silence.specs.Map.{silenced}
use Rattle.steps.specs.Tones.{Tones}
use Rattle.gaps.specs.declared.Gap.{Gap}
use Rattle.gaps.specs.declared.Gap.TheVariants.{Parts, Tenths}
use Rattle.gaps.specs.Gap.{parts}
use Rattle.line.specs.Line.{Line, entry_of, entry_limit, entry_power, tones}

-- a line with another gap
abbrev pub with_gap : Line → Gap → Line
with_gap l g = record { size = l.size; gap = g; budget = l.budget; entries = l.entries; maps = l.maps }

-- one whose gap is in parts of 256 is none whose gap is in tenths of a decibel
pub units-differ : (k l : Line) (g d : ℕ) → with_gap k (Parts g) ≡ with_gap l (Tenths d) → ⊥
units-differ k l g d e = absurd (omega (arith, apart (ap (λ (m : Line). m.gap) e)))
  where
    apart : Parts g ≡ Tenths d → ◌≡◌ {A = ℕ} 0 1
    apart f = cc

pub loads-alike : (l : Line) (g h : Gap) → parts g ≡ parts h → tones (with_gap l g) ≡ tones (with_gap l h)
loads-alike l g h e = ap at e
  where
    at : (n : ℕ) → Tones
    at n = record { count = l.size; limit = λ i. entry_limit n (entry_of l i) (silenced l.maps i); power = λ i b. entry_power n (entry_of l i) (silenced l.maps i) b }
