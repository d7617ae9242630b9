-- What the technician checks every morning, on the written bytes: of any table that keeps limits and budget, and so, by demand 3, of the
-- loading for most bits and of the re-fit, and of a set number of bits.
-- Assumes nothing.
use mathlib.Core.Bool.{Bool, true, false}
use mathlib.Core.List.{List}
use mathlib.Core.Option.{some}
use mathlib.Core.Path.{◌≡◌, refl, ap, subst, ◌∙◌}
use Prim.Native.Nat.{ℕ, ◌*◌, ◌≤◌, ◌<◌}
use native.Mathlib.Omega.{arith}
use lib.ListN.{get_or}
use Rattle.silence.specs.Map.{silenced}
use Rattle.steps.specs.Tones.{Table, ◌!◌, no_bits, KeepsLimits, KeepsBudget}
use Rattle.steps.specs.Runs.{most_bits, refit_run, set_bits}
use Rattle.steps.specs.Claims.{SetBits}
use Rattle.steps.proofs.Sums.{sum-eq}
use Rattle.line.specs.Line.{Entry, undescribed, Line, gap_of, entry_of, entry_limit, entry_rest, rest_of, rest_total, tones, LineInRange}
use Rattle.line.proofs.Loads.{line-demand-3, line-set-bits, no-bits-keep}
use Rattle.line.proofs.Masks.{within_mask, power-high}
use Rattle.tables.specs.Tables.{table_bytes}
use Rattle.tables.proofs.Places.{bits-stand, power-stands}
use Rattle.sheet.specs.Reading.{accepted, reading}
use Rattle.sheet.proofs.Sound.{Bytes, accepted-sound, accepted-fits}
use Rattle.loader.specs.Claims.{written_power, Nothing, Respects}

-- a tone that is silenced or not described carries no bits and sends no rest, so no power
limit-silenced : (g : ℕ) (e : Entry) {q : Bool} → q ≡ true → entry_limit g e q ≡ 0
limit-silenced g e h = rw h refl

limit-undescribed : (g : ℕ) {e : Entry} (q : Bool) → e ≡ undescribed → entry_limit g e q ≡ 0
limit-undescribed g true h = refl
limit-undescribed g false h = rw h refl

rest-silenced : (e : Entry) {q : Bool} → q ≡ true → entry_rest e q ≡ 0
rest-silenced e h = rw h refl

rest-undescribed : {e : Entry} (q : Bool) → e ≡ undescribed → entry_rest e q ≡ 0
rest-undescribed true h = refl
rest-undescribed false h = rw h refl

pub respects : (l : Line) → LineInRange l → (t : Table) → KeepsLimits (tones l) t → KeepsBudget (tones l) l.budget t → Respects l t
respects l I t w fits = record {
  bits_stand = bits;
  power_stands = power;
  masks = λ i il. rw (power i il) (within_mask (gap_of l) (entry_of l i) (silenced l.maps i) (t ! i) (I.entries i il) (w.under i il));
  budget = omega (arith, fits, sum-eq l.size (written_power l t) (λ i. (tones l).power i (t ! i)) power);
  silenced_tones = λ i il e. nothing i il (limit-silenced (gap_of l) (entry_of l i) e) (rest-silenced (entry_of l i) e);
  other_tones = λ i il e. nothing i il (limit-undescribed (gap_of l) (silenced l.maps i) e) (rest-undescribed (silenced l.maps i) e);
}
  where
    bits : (i : ℕ) → i < l.size → get_or (table_bytes (tones l) t) (9 * i) 0 ≡ t ! i
    bits = bits-stand (tones l) t l.size

    power : (i : ℕ) → i < l.size → written_power l t i ≡ (tones l).power i (t ! i)
    power i il =
        power-stands (tones l) t l.size i il (omega (arith, power-high l I i (t ! i) il (w.under i il)))

    nothing : (i : ℕ) → i < l.size → (tones l).limit i ≡ 0 → rest_of l i ≡ 0 → Nothing l t i
    nothing i il z r =
        let n : t ! i ≡ 0 = omega (arith, w.under i il) in
        (bits i il ∙ n, power i il ∙ ap ((tones l).power i) n ∙ r)

module _ (sheet : List ℕ) (b : Bytes sheet) (l : Line) (e : reading sheet ≡ accepted l) where
  ready : LineInRange l
  ready = (accepted-sound sheet b l e).in_range

  rests-fit : rest_total l ≤ l.budget
  rests-fit = accepted-fits sheet l e

  pub refit-respects : (start : Table) → KeepsLimits (tones l) start → Respects l (refit_run (tones l) l.budget start).table
  refit-respects start w =
      let D = line-demand-3 l ready rests-fit start w in
      respects l ready _ D.limits D.budget_kept

  pub most-respects : Respects l (most_bits (tones l) l.budget).table
  most-respects =
      let w : KeepsLimits (tones l) (no_bits (tones l)) = no-bits-keep l ready in
      subst (Respects l) (line-demand-3 l ready rests-fit (no_bits (tones l)) w).same_table (refit-respects (no_bits (tones l)) w)

  pub target-respects : (target : ℕ) {t : Table} → set_bits (tones l) l.budget target ≡ some t → Respects l t
  target-respects target {t} s = go (rw s at (line-set-bits l ready rests-fit target))
    where
      go : SetBits (tones l) l.budget target (some t) → Respects l t
      go c = respects l ready t c.carries.within c.carries.fits
