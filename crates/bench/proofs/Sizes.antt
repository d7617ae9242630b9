-- A check that answers counts answers N, at most the most tones.
-- Assumes nothing.
use Rattle.std.proofs.Common.{List, ◌≡◌, refl, ap, ℕ, ◌≤◌, arith, Result, Ok, Err}
use Rattle.sizes.specs.Sizes.{most_tones}
use Rattle.refusals.specs.declared.Refusal.{Refusal}
use Rattle.sheet.specs.declared.Checked.{Checked}
use Rattle.sheet.specs.Reading.{Meaning, accepted, refused, reading}
use Rattle.sheet.specs.Check.{checking}
use Rattle.sheet.proofs.Sound.{Bytes, accepted-sound}

pub counted-size : (s : List ℕ) → Bytes s → {c : Checked} → Ok c ≡ checking (reading s) → c.size ≤ most_tones
counted-size s b {c} = go (reading s) refl
  where
    go : (x : Meaning) → reading s ≡ x → ◌≡◌ {A = Result Checked Refusal} (Ok c) (checking x) → c.size ≤ most_tones
    go (accepted l) e h =
        let z : c.size ≡ l.size = cc in
        omega (arith, (accepted-sound s b l e).in_range.size_high)
    go (refused q) e h = absurd (cc h)
