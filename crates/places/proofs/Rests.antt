-- What a rest is judged by at a tone's place: for each command, what its cost goes by, and its mask.
-- Assumes nothing.
use mathlib.Core.Bool.{Bool, true, false, cond}
use mathlib.Core.List.{List}
use mathlib.Core.Path.{◌≡◌, refl, sym}
use Prim.Native.Nat.{ℕ}
use borrow.Author.Tests.{ne_eqb}
use lib.Dec.{eqb}
use lib.ListN.{get_or}
use Rattle.readings.specs.Reading.{granted_cost}
use Rattle.line.specs.declared.Numbers.{Numbers}
use Rattle.line.specs.declared.ReadNumbers.{ReadNumbers}
use Rattle.line.specs.declared.Kind.TheVariants.{Pair, Single, Read}
use Rattle.line.specs.declared.Tone.{Tone}
use Rattle.line.specs.Tone.{kind_of, whole_cost, kind_cost, NumbersInRange, InRange, is_below, is_rest}
use Rattle.line.proofs.Costs.{reading-granted}
use Rattle.addresses.specs.Addresses.{short_of, carried_at}
use Rattle.places.specs.Places.{numbers_at, levels_at, ratio_at, tone_at}

-- a tone with a reading
module _ (g rest : ℕ) (n : ReadNumbers) (I : InRange g (record { kind = Read n })) where
  pub reading-rest : is_below (granted_cost g n.reading) n.mask rest ≡ is_rest g (record { kind = Read n }) rest
  unfolding kind_cost
  reading-rest = rw (reading-granted g n.reading I.kind I.cost)

-- a tone with whole numbers, of either kind
module _ (g rest : ℕ) (n : Numbers) where
  pub numbers-rest : (single : Bool) → is_below (whole_cost g n) n.mask rest ≡ is_rest g (record { kind = kind_of single n }) rest
  unfolding kind_cost
  numbers-rest true = refl
  numbers-rest false = refl

  pub numbers-there : (single : Bool) → InRange g (record { kind = kind_of single n }) → NumbersInRange n
  numbers-there true I = I.kind
  numbers-there false I = I.kind

-- the tone at a place, by its short command's byte
module _ (s : List ℕ) (place : ℕ) {short : ℕ} (is : short ≡ short_of (get_or s place 0)) where
  pub levels-there : short ≡ 9 → tone_at s place ≡ record { kind = Read (levels_at s (carried_at s place)) }
  levels-there e = rw (sym is, e)

  pub ratio-there : short ≡ 10 → tone_at s place ≡ record { kind = Read (ratio_at s (carried_at s place)) }
  ratio-there e = rw (sym is, e)

  pub tone-there : (short ≡ 9 → ⊥) → (short ≡ 10 → ⊥) → tone_at s place ≡ record { kind = kind_of (eqb short 5) (numbers_at s (carried_at s place)) }
  tone-there p q = rw (sym is, ne_eqb short 9 p, ne_eqb short 10 q) (by (eqb short 5))
    where
      n : Numbers
      n = numbers_at s (carried_at s place)

      by : (single : Bool) → ◌≡◌ {A = Tone} (record { kind = cond single (Single n) (Pair n) }) (record { kind = kind_of single n })
      by true = refl
      by false = refl
