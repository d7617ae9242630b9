-- The noise of a tone whose command stands at a place of a sheet, by the byte of its short command.
-- Assumes nothing.
use mathlib.Core.Bool.{Bool, true, false, not, cond, true≢false}
use mathlib.Core.List.{List}
use mathlib.Core.Path.{◌≡◌, refl, sym, ap, ◌∙◌}
use Prim.Native.Nat.{ℕ}
use native.Mathlib.Decide.{ℕ_discrete}
use borrow.Author.Tests.{eq-eqb, ne_eqb}
use lib.Dec.{eqb}
use lib.ListN.{get_or}
use Rattle.bigendian.specs.Number.{number_at}
use Rattle.line.specs.declared.Numbers.{Numbers}
use Rattle.line.specs.declared.ReadNumbers.{ReadNumbers}
use Rattle.line.specs.declared.Kind.{Kind}
use Rattle.line.specs.declared.Kind.TheVariants.{Pair, Single, Read}
use Rattle.line.specs.declared.Tone.{Tone}
use Rattle.line.specs.Tone.{kind_of, noise_of, has_noise}
use Rattle.addresses.specs.Addresses.{short_of, carried_at}
use Rattle.places.specs.Places.{tone_at}
use Rattle.places.proofs.Rests.{levels-there, ratio-there, tone-there}

-- a tone without a whole noise has 0 in its place
pub no-noise : (k : Kind) → has_noise k ≡ false → noise_of k ≡ 0
no-noise (Pair n) h = absurd (true≢false h)
no-noise (Single n) h = absurd (true≢false h)
no-noise (Read n) h = refl

whole : (single : Bool) (n : Numbers) → true ≡ has_noise (kind_of single n)
whole true n = refl
whole false n = refl

-- whether the tone at a place has a whole noise
module _ (s : List ℕ) (place : ℕ) {short : ℕ} (is : short ≡ short_of (get_or s place 0)) where
  pub levels-no-noise : short ≡ 9 → not (eqb short 9) ≡ has_noise (tone_at s place).kind
  levels-no-noise e = rw (eq-eqb short 9 e) (sym (ap (λ (t : Tone). has_noise t.kind) (levels-there s place is e)))

  -- of the other bytes, every one but 10 gives one
  pub other-noise : (short ≡ 9 → ⊥) → not (eqb short 10) ≡ has_noise (tone_at s place).kind
  other-noise p = by (ℕ_discrete short 10)
    where
      by : Dec (short ≡ 10) → not (eqb short 10) ≡ has_noise (tone_at s place).kind
      by (yes e) = rw (eq-eqb short 10 e) (sym (ap (λ (t : Tone). has_noise t.kind) (ratio-there s place is e)))
      by (no q) = rw (ne_eqb short 10 q) (whole (eqb short 5) _ ∙ sym (ap (λ (t : Tone). has_noise t.kind) (tone-there s place is p q)))

-- the noise of a tone that has a whole one is the first of its numbers
pub noise-there : (s : List ℕ) (place : ℕ) → has_noise (tone_at s place).kind ≡ true → noise_of (tone_at s place).kind ≡ number_at s (carried_at s place) 2
noise-there s place = by (eqb short 0x05) (eqb short 0x09) (eqb short 0x0a) _ _ _
  where
    short : ℕ
    short = short_of (get_or s place 0)

    by : (a b c : Bool) (n : Numbers) (x y : ReadNumbers) → (let k = cond a (Single n) (cond b (Read x) (cond c (Read y) (Pair n))) in has_noise k ≡ true → noise_of k ≡ n.noise)
    by true b c n x y h = refl
    by false true c n x y h = absurd (true≢false (sym h))
    by false false true n x y h = absurd (true≢false (sym h))
    by false false false n x y h = refl
