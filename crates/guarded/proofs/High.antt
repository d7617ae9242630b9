-- What a line has at its high noises, tone by tone, as the code finds it: where no high noise stands, or the tone is silenced, what it has at the
-- low ones; else what is found of the tone with its high noise.
-- Assumes nothing.
use mathlib.Core.Bool.{Bool, true, false}
use mathlib.Core.List.{List}
use mathlib.Core.Path.{◌≡◌, refl, sym, ap, ◌∙◌}
use Prim.Native.Nat.{ℕ, zero, suc, ◌≤◌, ◌<◌}
use native.Mathlib.Decide.{dec_lt}
use native.Mathlib.Omega.{arith}
use borrow.Author.Tests.{lt-ltb}
use lib.ListN.{get_or-eq_default}
use Rattle.silence.specs.Map.{silenced}
use Rattle.gaps.specs.Gap.{parts}
use Rattle.line.specs.declared.Kind.{Kind}
use Rattle.line.specs.declared.Kind.TheVariants.{Pair, Single, Read}
use Rattle.line.specs.declared.Steps.{Steps}
use Rattle.line.specs.Tone.{noise_of, InRange}
use Rattle.line.specs.Line.{undescribed, described, EntryInRange, LineInRange, gap_of, entry_of, no_steps, steps_of, entry_steps, steps_at}
use Rattle.places.specs.declared.Noted.{Noted}
use Rattle.places.specs.Places.{tone_at, rest_from, high_at, added_at, entry_at, entry_noted}
use Rattle.places.proofs.Entries.{high-there, entry-there}
use Rattle.noises.specs.Noises.{kind_with, with_noise, entry_with, entry_high, high_noise, at_high}
use Rattle.noises.proofs.Chosen.{entry-with, steps-with, chosen-in-range, high-inside}
use Rattle.rows.specs.declared.Header.{Header}
use Rattle.sheet.specs.declared.Index.{Index}
use Rattle.sheet.specs.Index.{noted_of, Indexed}
use Rattle.sheet.proofs.Sound.{Bytes}
use Rattle.guarded.specs.Guarded.{raised_tone}
use Rattle.sheet.proofs.Uses.{size_is, gap_is, silenced-here, line-sound, line-in-range}

-- a tone with its own noise is itself
own-kind : (k : Kind) → kind_with (noise_of k) k ≡ k
own-kind (Pair n) = refl
own-kind (Single n) = refl
own-kind (Read n) = refl

own-entry : (s : List ℕ) (place rest : ℕ) → entry_with (entry_high (entry_at s place rest 0)) (entry_at s place rest 0) ≡ entry_at s place rest 0
own-entry s zero rest = refl
own-entry s (suc p) rest = ap (λ (k : Kind). described (record { kind = k }) (added_at s (tone_at s (suc p)) rest 0)) (own-kind (tone_at s (suc p)).kind)

module _ {s : List ℕ} {h : Header} {index : Index} (x : Indexed s h index) (i : ℕ) where
  abbrev n : Noted
  n = noted_of index i

  -- tone i at its high noise, by where its commands stand
  at-noted : steps_at (at_high x.line) i
      ≡ (let e = entry_noted s n in entry_steps (parts h.gap) (entry_with (entry_high e) e) (silenced index.maps i))
  at-noted = steps-with (high_noise x.line) x.line i ∙ rw (x.indexes.entry i, silenced-here x.indexes i, gap_is x)

  own-noted : steps_at x.line i ≡ entry_steps (parts h.gap) (entry_noted s n) (silenced index.maps i)
  own-noted = rw (x.indexes.entry i, silenced-here x.indexes i, gap_is x)

  pub raised-none : n.high ≡ 0 → steps_at (at_high x.line) i ≡ steps_at x.line i
  raised-none none = at-noted ∙ rw (none, own-entry s n.own n.rest) (rw none at (sym own-noted))

  pub raised-silent : silenced index.maps i ≡ true → steps_at (at_high x.line) i ≡ steps_at x.line i
  raised-silent q =
      let high : steps_at (at_high x.line) i ≡ no_steps = at-noted ∙ rw q in
      let low : steps_at x.line i ≡ no_steps = own-noted ∙ rw q in
      high ∙ sym low

  -- past the line's last tone nothing is described
  pub raised-past : Bytes s → h.size ≤ i → steps_at (at_high x.line) i ≡ steps_at x.line i
  raised-past bytes past =
      let none : entry_of x.line i ≡ undescribed = get_or-eq_default x.line.entries undescribed {n = i} (omega (arith, (line-sound x bytes).entries_sized, size_is x)) in
      steps-with (high_noise x.line) x.line i ∙ rw none

  module _ (there : 0 < n.high) where
    -- a tone that has a high noise is described
    pub placed : 0 < n.own
    placed = by (dec_lt 0 n.own)
      where
        by : Dec (0 < n.own) → 0 < n.own
        by (yes l) = l
        by (no m) =
            let none : n.own ≡ 0 = omega arith in
            absurd (omega (arith, x.indexes.no_high i none))

    high-entry : (let e = entry_noted s n in entry_with (entry_high e) e)
        ≡ described (with_noise (high_at s n.high) (tone_at s n.own)) (added_at s (tone_at s n.own) n.rest n.high)
    high-entry = rw (entry-there s n.rest n.high n.own placed, high-there s (tone_at s n.own) n.high there)

    -- the rest is what it was
    pub raised-tone : silenced index.maps i ≡ false
        → steps_at (at_high x.line) i ≡ steps_of (parts h.gap) (with_noise (high_at s n.high) (tone_at s n.own)) (steps_at x.line i).rest
    raised-tone q =
        let own : (steps_at x.line i).rest ≡ rest_from s n.rest = ap (λ (y : Steps). y.rest) own-noted ∙ rw (entry-there s n.rest n.high n.own placed, q) in
        rw own (at-noted ∙ rw (high-entry, q))

    -- and in range there
    pub raised-in-range : Bytes s → i < h.size → InRange (parts h.gap) (with_noise (high_at s n.high) (tone_at s n.own))
    raised-in-range bytes il =
        let I : LineInRange x.line = line-in-range x bytes in
        let here : EntryInRange (gap_of x.line) (entry_of (at_high x.line) i) = (chosen-in-range x.line I (high_noise x.line) (high-inside x.line I)).entries i (omega (arith, size_is x)) in
        (rw (entry-with (high_noise x.line) x.line i, x.indexes.entry i, high-entry, gap_is x) at here).0

  -- what the code finds of a tone is what it has at its high noise
  pub raised_is : raised_tone (parts h.gap) s n (silenced index.maps i) (steps_at x.line i) ≡ steps_at (at_high x.line) i
  raised_is = by (dec_lt 0 n.high) (silenced index.maps i) refl
    where
      by : Dec (0 < n.high) → (q : Bool) → silenced index.maps i ≡ q → raised_tone (parts h.gap) s n q (steps_at x.line i) ≡ steps_at (at_high x.line) i
      by (no m) q e =
          let none : n.high ≡ 0 = omega arith in
          rw none (sym (raised-none none))
      by (yes l) true e = rw (lt-ltb 0 n.high l) (sym (raised-silent e))
      by (yes l) false e = rw (lt-ltb 0 n.high l) (sym (raised-tone l e))
