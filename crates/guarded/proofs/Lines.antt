-- The two loadings of a line that is indexed in its sheet: the plain one, and the one at the high noises.
-- Assumes nothing.
use mathlib.Core.List.{List}
use mathlib.Core.Path.{◌≡◌, refl, sym}
use Prim.Native.Nat.{ℕ, ◌≤◌}
use native.Mathlib.Omega.{arith}
use lib.ListN.{length, take}
use Rattle.std.specs.Prelude.{Result, Ok, Err}
use Rattle.steps.specs.Tones.{total_bits}
use Rattle.steps.specs.Runs.{most_bits}
use Rattle.line.specs.Line.{Line, tones, rest_total}
use Rattle.line.specs.Arrays.{Arrays, ArraysOf}
use Rattle.noises.specs.Noises.{high_noise, at_high}
use Rattle.noises.proofs.Chosen.{chosen-rests, chosen-in-range, high-inside}
use Rattle.refusals.specs.declared.Refusal.{Refusal}
use Rattle.rows.specs.declared.Header.{Header}
use Rattle.running.specs.declared.Totals.{Totals}
use Rattle.loadings.specs.Loads.{Loading, loaded, turned_down, most_on, load_answer, after_loading, Loadable, LoadsAs}
use Rattle.loadings.proofs.Runs.{line-loadable}
use Rattle.sheet.specs.declared.Index.{Index}
use Rattle.sheet.specs.Reading.{accepted, said, reading}
use Rattle.sheet.specs.Index.{Indexed}
use Rattle.sheet.proofs.Sound.{Bytes, accepted-fits}
use Rattle.sheet.proofs.Uses.{size_is, budget-is, line-in-range}
use Rattle.arrays.specs.Tones.{HoldsLineOf}
use Rattle.guarded.specs.declared.GuardedLoad.{GuardedLoad}
use Rattle.guarded.specs.Guarded.{guarding, plain_bits, guarded_answer, guarded_outcome, guarded_numbers}

-- what the loading at the high noises answers, with the total bits of the plain one
abbrev with_plain : (plain : ℕ) → Result Totals Refusal → Result GuardedLoad Refusal
with_plain plain (Ok t) = Ok (record { totals = t; plain = plain })
with_plain plain (Err q) = Err q

-- the line that the bytes say is the one that is indexed
pub only : {s : List ℕ} {h : Header} {index : Index} (x : Indexed s h index) (l : Line) → said s ≡ accepted l → x.line ≡ l
only x l e = cc x.means

module _ {s : List ℕ} {h : Header} {index : Index} (x : Indexed s h index) (bytes : Bytes s)
    (means : (l : Line) → said s ≡ accepted l → reading s ≡ accepted l) where
  is_read : reading s ≡ accepted x.line
  is_read = means x.line x.means

  fits : rest_total x.line ≤ x.line.budget
  fits = accepted-fits s x.line is_read

  -- the array of the line, filled
  pub filled : {A : Arrays} → HoldsLineOf (said s) A → ArraysOf x.line A
  filled holds = (rw x.means at holds).1

  pub low-loadable : {A : Arrays} → ArraysOf x.line A → Loadable (length (take h.size A)) h.budget (take h.size A) (tones x.line)
  low-loadable A = rw (← size_is x, ← budget-is x) (line-loadable x.line (line-in-range x bytes) x.line.budget fits A)

  pub high-loadable : {A : Arrays} → ArraysOf (at_high x.line) A → Loadable (length (take h.size A)) h.budget (take h.size A) (tones (at_high x.line))
  high-loadable A =
      let I = line-in-range x bytes in
      rw (← size_is x, ← budget-is x)
      (line-loadable (at_high x.line) (chosen-in-range x.line I (high_noise x.line) (high-inside x.line I)) x.line.budget (omega (arith, chosen-rests (high_noise x.line) x.line, fits)) A)

  guarded-is : (room : ℕ) → guarding (reading s) room ≡ most_on (tones (at_high x.line)) h.budget room
  unfolding guarding
  guarded-is room = rw (is_read, budget-is x)

  -- what the two loadings answer together
  pub record Both (r : Result GuardedLoad Refusal) (old new : List ℕ) : Type 0 where
    pub answer : r ≡ guarded_answer (plain_bits (reading s)) (guarding (reading s) (length old))
    pub bytes_after : new ≡ after_loading (guarding (reading s) (length old)) old

  pub both : {old new : List ℕ} {plain : ℕ} {r : Result Totals Refusal} → plain ≡ total_bits (tones x.line) (most_bits (tones x.line) h.budget).table
      → LoadsAs r old new (most_on (tones (at_high x.line)) h.budget) → Both (with_plain plain r) old new
  both {old} {new} {plain} {r} low high = record {
    answer = rw (high.answer, guarded-is (length old), plain-is) (same (most_on (tones (at_high x.line)) h.budget (length old)));
    bytes_after = rw (guarded-is (length old)) high.bytes;
  }
    where
      plain-is : plain_bits (reading s) ≡ plain
      plain-is = rw (is_read, budget-is x) (sym low)

      same : (on : Loading) → with_plain plain (load_answer on) ≡ guarded_answer plain on
      same (loaded T ran) = refl
      same (turned_down q) = refl

-- the numbers of what is answered are those of the outcome
pub guarded-numbers : (r : Result GuardedLoad Refusal) (plain : ℕ) (on : Loading) → r ≡ guarded_answer plain on → guarded_numbers r ≡ guarded_outcome plain on
guarded-numbers r plain on e = rw e (by on)
  where
    by : (on : Loading) → guarded_numbers (guarded_answer plain on) ≡ guarded_outcome plain on
    by (loaded T ran) = refl
    by (turned_down q) = refl
