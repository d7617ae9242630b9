-- A format with more tones, words or bytes covers one with fewer, since each operand takes what it took; so does one with more commands.
-- Assumes nothing.
use mathlib.Core.Bool.{Bool, true, false, cond, true≢false}
use mathlib.Core.List.{List, [], ◌∷◌, ◌++◌}
use mathlib.Core.Option.{Option, none, some}
use mathlib.Core.Path.{◌≡◌, refl, sym, subst}
use Prim.Native.Nat.{ℕ, zero, suc, ◌+◌, ◌≤◌}
use native.Mathlib.Omega.{arith}
use borrow.Author.Tests.{le-ltb}
use lib.Dec.{eqb}
use Rattle.std.specs.Prelude.{is_ok, Result}
use Rattle.bigendian.specs.Number.{number}
use Rattle.refusals.specs.declared.Refusal.{Refusal}
use Rattle.rows.specs.declared.Header.{Header}
use Rattle.rows.specs.declared.Command.{Command}
use Rattle.rows.specs.Rows.{Seen, Operand, Row, within, silence, end, tenths_rows, reading_rows, rest_rows, twin_rows, high_rows, rows_of, width, with_code, judged, operands_from, row_at}
use Rattle.command.specs.Format.{Format, format_of, document01_tones, document01_words, document01_bytes, document01, with_tenths, with_readings, with_rests, with_twins, with_sizes, today, Covers, Covered, Within}
use Rattle.command.proofs.Walk.{in_within}

-- what holds of the elements of two lists, one by one
abbrev Paired : {A : Type 0} → (A → A → Type 0) → List A → List A → Type 0
Paired R [] [] = Unit {0}
Paired R [] (y ∷ ys) = ⊥
Paired R (x ∷ xs) [] = ⊥
Paired R (x ∷ xs) (y ∷ ys) = R x y × Paired R xs ys

-- ---- operands

-- an operand takes each value that another takes
record Wider (o' o : Operand) : Type 0 where
  same_width : o'.width ≡ o.width
  taken : (seen : Seen) (v place : ℕ) → o.judge seen v place ≡ none → o'.judge seen v place ≡ none

wider-same : (o : Operand) → Wider o o
wider-same o = record { same_width = refl; taken = λ seen v place e. e }

wider-within : {high high' : ℕ} (w low : ℕ) → high ≤ high' → Wider (within w low high') (within w low high)
wider-within {high} {high'} w low l = record {
  same_width = refl;
  taken = λ seen v place e.
      let i = in_within v low high _ _ e in
      let low-enough = le-ltb v low i.0 in
      let high-enough : v ≤ high' = omega arith in
      rw (low-enough, le-ltb high' v high-enough);
}

wider-width : (os' os : List Operand) → Paired Wider os' os → width os' ≡ width os
wider-width [] [] a = refl
wider-width [] (o ∷ os) a = elim a [ ]
wider-width (o' ∷ os') [] a = elim a [ ]
wider-width (o' ∷ os') (o ∷ os) a = rw (a.0.same_width, wider-width os' os a.1)

-- wherever the operands are not refused, the wider ones do the same
wider-operands : (seen : Seen) (s : List ℕ) (at : ℕ) (os' os : List Operand) (does : List ℕ → Command) → Paired Wider os' os
    → is_ok (operands_from seen s at os does) ≡ true → operands_from seen s at os' does ≡ operands_from seen s at os does
wider-operands seen s at [] [] does a e = refl
wider-operands seen s at [] (o ∷ os) does a e = elim a [ ]
wider-operands seen s at (o' ∷ os') [] does a e = elim a [ ]
wider-operands seen s at (o' ∷ os') (o ∷ os) does a e =
    rw a.0.same_width (by (o.judge seen v at) (o'.judge seen v at) (a.0.taken seen v at) (wider-operands next s (at + o.width) os' os does a.1) e)
  where
    v : ℕ
    v = number s at o.width

    next : Seen
    next = record { header = seen.header; known = seen.known; before = seen.before ++ (v ∷ []) }

    by : (q q' : Option Refusal) {c c' : Result Command Refusal} → (q ≡ none → q' ≡ none) → (is_ok c ≡ true → c' ≡ c) → is_ok (judged q c) ≡ true → judged q' c' ≡ judged q c
    by (some r) q' t rest e = absurd (true≢false (sym e))
    by none q' t rest e = rw (t refl) (rest e)

-- ---- rows

covers-same : (r : Row) → Covers r r
covers-same r = record { same_width = refl; same_effect = λ h known s at e. refl }

covers-wider : (code : ℕ) (does : Header → List ℕ → Command) (os' os : List Operand) → Paired Wider os' os
    → Covers (record { code = code; operands = os'; does = does }) (record { code = code; operands = os; does = does })
unfolding row_at
covers-wider code does os' os a = record {
  same_width = wider-width os' os a;
  same_effect = λ h known s at e. wider-operands _ s (at + 1) os' os (does h) a e;
}

-- a row of the same byte covers another
record Like (r' r : Row) : Type 0 where
  same_code : r'.code ≡ r.code
  covers : Covers r' r

all-covered : (rs' rs : List Row) (code : ℕ) → Paired Like rs' rs → Covered (with_code rs code) (with_code rs' code)
all-covered [] [] code a = tt
all-covered [] (r ∷ rs) code a = elim a [ ]
all-covered (r' ∷ rs') [] code a = elim a [ ]
all-covered (r' ∷ rs') (r ∷ rs) code a =
    subst (λ (k : ℕ). Covered (with_code (r ∷ rs) code) (cond (eqb code k) (some r') (with_code rs' code))) (sym a.0.same_code)
    (by (eqb code r.code) (all-covered rs' rs code a.1))
  where
    by : (t : Bool) → Covered (with_code rs code) (with_code rs' code) → Covered (cond t (some r) (with_code rs code)) (cond t (some r') (with_code rs' code))
    by true later = a.0.covers
    by false later = later

-- ---- formats

pub wider : {t t' w w' b b' : ℕ} → t ≤ t' → w ≤ w' → b ≤ b' → Within (format_of t w b) (format_of t' w' b')
wider {t} {t'} {w} {w'} tones words bytes = record {
  no_longer = bytes;
  covered = λ stage code. all-covered (rows_of t' w' stage) (rows_of t w stage) code (rows stage);
}
  where
    same : (r : Row) → Like r r
    same r = record { same_code = refl; covers = covers-same r }

    -- those after the silence command
    later_rows : (n : ℕ) → List Row
    later_rows n = end ∷ (reading_rows (suc (suc (suc n))) ++ rest_rows (suc (suc (suc n))) ++ twin_rows (suc (suc (suc n))) ++ high_rows (suc (suc (suc n))))

    all_same : (rs : List Row) → Paired Like rs rs
    all_same [] = tt
    all_same (r ∷ rs) = (same r, all_same rs)

    rows : (stage : ℕ) → Paired Like (rows_of t' w' stage) (rows_of t w stage)
    rows zero = (record { same_code = refl; covers = covers-wider _ _ _ _ (wider-within 2 1 tones, tt) }, tt)
    rows (suc zero) = all_same (rows_of t w 1)
    rows (suc (suc zero)) = all_same (rows_of t w 2)
    rows (suc (suc (suc n))) =
        let words-wider : Covers (silence w') (silence w) = covers-wider _ _ _ _ (wider-within 1 0 (omega arith), (wider-same _, tt)) in
        (same _, (same _, (record { same_code = refl; covers = words-wider }, all_same (later_rows n))))

pub within_same : (F : Format) → Within F F
within_same F = record { no_longer = omega arith; covered = λ stage code. same (with_code (F.rows stage) code) }
  where
    same : (o : Option Row) → Covered o o
    same none = tt
    same (some r) = covers-same r

-- more commands after those that a format has: the old ones are covered
pub more_rows : (rs extra : List Row) (code : ℕ) → Covered (with_code rs code) (with_code (rs ++ extra) code)
more_rows [] extra code = tt
more_rows (r ∷ rs) extra code = by (eqb code r.code) (more_rows rs extra code)
  where
    by : (t : Bool) → Covered (with_code rs code) (with_code (rs ++ extra) code)
        → Covered (cond t (some r) (with_code rs code)) (cond t (some r) (with_code (rs ++ extra) code))
    by true c = covers-same r
    by false c = c

-- W1: the format with 08 takes what document 01's takes
pub tenths-within : Within document01 with_tenths
tenths-within = record { no_longer = omega arith; covered = λ stage code. more_rows (document01.rows stage) (tenths_rows stage) code }

-- W5: with 09 and 0A, what that one takes
pub readings-within : Within with_tenths with_readings
readings-within = record { no_longer = omega arith; covered = λ stage code. more_rows (with_tenths.rows stage) (reading_rows stage) code }

-- W6: and with 0B, what that one takes
pub rests-within : Within with_readings with_rests
rests-within = record { no_longer = omega arith; covered = λ stage code. more_rows (with_readings.rows stage) (rest_rows stage) code }

-- W8: and with the twins, what that one takes
pub twins-within : Within with_rests with_twins
twins-within = record { no_longer = omega arith; covered = λ stage code. more_rows (with_rests.rows stage) (twin_rows stage) code }

-- W9: and with 0C and its twin, what that one takes, at document 01's sizes and at W8's
abbrev pub small_with_highs : Format
small_with_highs = format_of document01_tones document01_words document01_bytes

pub small-highs-within : Within with_twins small_with_highs
small-highs-within = record { no_longer = omega arith; covered = λ stage code. more_rows (with_twins.rows stage) (high_rows stage) code }

pub highs-within : Within with_sizes today
highs-within = record { no_longer = omega arith; covered = λ stage code. more_rows (with_sizes.rows stage) (high_rows stage) code }

-- W8: so does one with more tones, words and bytes
pub sizes-within : Within small_with_highs today
sizes-within = wider (omega arith) (omega arith) (omega arith)
