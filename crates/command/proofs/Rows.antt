-- Laws of the command at a place: `one-row`, `some-late`, `added-late`, `twin-late`, `added-twin-late`, `none-late`, `row-found`, the row that a
-- command byte finds; `command-too-long`, `command-at`, `no_row`, `row-there`, `row_cut`, `row-whole`, the command there.
-- Assumes nothing.
use mathlib.Core.Path.{◌≡◌, refl, sym, ap, ◌∙◌}
use mathlib.Core.Bool.{Bool, true, false, cond, true≢false}
use mathlib.Core.List.{List, [], ◌∷◌, ◌++◌}
use mathlib.Core.Option.{Option, none, some}
use Prim.Native.Nat.{ℕ, zero, suc, ◌+◌, ◌≤◌, ◌<◌}
use native.Mathlib.Decide.{ℕ_discrete}
use native.Mathlib.Omega.{arith}
use borrow.Author.Tests.{le-ltb, lt-ltb, lt-leb, ne_eqb}
use lib.ListN.{length, get_or}
use Rattle.std.specs.Prelude.{Err}
use Rattle.sizes.specs.Sizes.{longest_sheet}
use Rattle.refusals.specs.declared.Refusal.TheVariants.{SheetTooLong, SheetEnds, CommandNotAllowed}
use Rattle.rows.specs.declared.Header.{Header}
use Rattle.rows.specs.Rows.{Known, Row, pair, single, end, levels, ratio, rest, high, width, with_code, row_at, whole_row}
use Rattle.rows.specs.Codes.{silence_row, all_rows, row_of, command_bytes}
use Rattle.command.specs.Format.{is_row, today, decoded, command_at}
use Rattle.command.proofs.Walk.{Each, Found, found}

-- ---- the row that a command byte finds

-- what holds of each row of two lists joined holds of those of either
each_left : (P : Row → Type 0) (rs qs : List Row) → Each P (rs ++ qs) → Each P rs
each_left P [] qs each = tt
each_left P (r ∷ rs) qs each = (each.0, each_left P rs qs each.1)

each_right : (P : Row → Type 0) (rs qs : List Row) → Each P (rs ++ qs) → Each P qs
each_right P [] qs each = each
each_right P (r ∷ rs) qs each = each_right P rs qs each.1

-- the rows from the second stage on, and from the third
abbrev from_gap : List Row
from_gap = today.rows 1 ++ (today.rows 2 ++ today.rows 3)

abbrev from_budget : List Row
from_budget = today.rows 2 ++ today.rows 3

-- what holds of each row holds of the one found
found-today : (P : Row → Type 0) → Each P all_rows → (stage code : ℕ) → Found P code (with_code (today.rows stage) code)
found-today P each stage code = found P code (today.rows stage) (part stage)
  where
    late : Each P from_budget
    late = each_right P (today.rows 1) from_budget (each_right P (today.rows 0) from_gap each)

    part : (stage : ℕ) → Each P (today.rows stage)
    part zero = each_left P (today.rows 0) from_gap each
    part (suc zero) = each_left P (today.rows 1) from_budget (each_right P (today.rows 0) from_gap each)
    part (suc (suc zero)) = each_left P (today.rows 2) (today.rows 3) late
    part (suc (suc (suc n))) = each_right P (today.rows 2) (today.rows 3) late

-- after the first three commands the others are allowed
abbrev late_rows : List Row
late_rows = pair 1 ∷ single 1 ∷ silence_row ∷ end ∷ levels 1 ∷ ratio 1 ∷ rest 1 ∷ pair 2 ∷ single 2 ∷ levels 2 ∷ ratio 2 ∷ rest 2 ∷ high 1 ∷ high 2 ∷ []

rows-late : (stage : ℕ) → 3 ≤ stage → today.rows stage ≡ late_rows
rows-late zero l = absurd (omega arith)
rows-late (suc zero) l = absurd (omega arith)
rows-late (suc (suc zero)) l = absurd (omega arith)
rows-late (suc (suc (suc n))) l = refl

-- a test that finds one row or none
pub one-row : (t : Bool) (r : Row) → t ≡ is_row (cond t (some r) none)
one-row true r = refl
one-row false r = refl

module _ (stage code : ℕ) (late : 3 ≤ stage) where
  -- their bytes are 4 to 7 and 9 to 12, and those of the twins
  pub some-late : 4 ≤ code → code ≤ 7 → is_row (with_code (today.rows stage) code) ≡ true
  some-late low high = rw (rows-late stage late) (by (ℕ_discrete code 4) (ℕ_discrete code 5) (ℕ_discrete code 6))
    where
      by : Dec (code ≡ 4) → Dec (code ≡ 5) → Dec (code ≡ 6) → is_row (with_code late_rows code) ≡ true
      by (yes e) q r = rw e
      by (no p) (yes e) r = rw e
      by (no p) (no q) (yes e) = rw e
      by (no p) (no q) (no r) = let e : code ≡ 7 = omega arith in rw e

  pub added-late : 9 ≤ code → code ≤ 12 → is_row (with_code (today.rows stage) code) ≡ true
  added-late low high = rw (rows-late stage late) (by (ℕ_discrete code 9) (ℕ_discrete code 10) (ℕ_discrete code 11))
    where
      by : Dec (code ≡ 9) → Dec (code ≡ 10) → Dec (code ≡ 11) → is_row (with_code late_rows code) ≡ true
      by (yes e) q r = rw e
      by (no p) (yes e) r = rw e
      by (no p) (no q) (yes e) = rw e
      by (no p) (no q) (no r) = let e : code ≡ 12 = omega arith in rw e

  pub twin-late : 20 ≤ code → code ≤ 21 → is_row (with_code (today.rows stage) code) ≡ true
  twin-late low high = rw (rows-late stage late) (by (ℕ_discrete code 20))
    where
      by : Dec (code ≡ 20) → is_row (with_code late_rows code) ≡ true
      by (yes e) = rw e
      by (no p) = let e : code ≡ 21 = omega arith in rw e

  pub added-twin-late : 25 ≤ code → code ≤ 28 → is_row (with_code (today.rows stage) code) ≡ true
  added-twin-late low high = rw (rows-late stage late) (by (ℕ_discrete code 25) (ℕ_discrete code 26) (ℕ_discrete code 27))
    where
      by : Dec (code ≡ 25) → Dec (code ≡ 26) → Dec (code ≡ 27) → is_row (with_code late_rows code) ≡ true
      by (yes e) q r = rw e
      by (no p) (yes e) r = rw e
      by (no p) (no q) (yes e) = rw e
      by (no p) (no q) (no r) = let e : code ≡ 28 = omega arith in rw e

  -- and no other
  pub none-late : (4 ≤ code → code ≤ 7 → ⊥) → (9 ≤ code → code ≤ 12 → ⊥) → (20 ≤ code → code ≤ 21 → ⊥) → (25 ≤ code → code ≤ 28 → ⊥)
      → is_row (with_code (today.rows stage) code) ≡ false
  none-late p q r z =
      rw (
        rows-late stage late,
        ne_eqb code 4 (λ e. p (omega arith) (omega arith)),
        ne_eqb code 5 (λ e. p (omega arith) (omega arith)),
        ne_eqb code 6 (λ e. p (omega arith) (omega arith)),
        ne_eqb code 7 (λ e. p (omega arith) (omega arith)),
        ne_eqb code 9 (λ e. q (omega arith) (omega arith)),
        ne_eqb code 10 (λ e. q (omega arith) (omega arith)),
        ne_eqb code 11 (λ e. q (omega arith) (omega arith)),
        ne_eqb code 12 (λ e. q (omega arith) (omega arith)),
        ne_eqb code 20 (λ e. r (omega arith) (omega arith)),
        ne_eqb code 21 (λ e. r (omega arith) (omega arith)),
        ne_eqb code 25 (λ e. z (omega arith) (omega arith)),
        ne_eqb code 26 (λ e. z (omega arith) (omega arith)),
        ne_eqb code 27 (λ e. z (omega arith) (omega arith)),
        ne_eqb code 28 (λ e. z (omega arith) (omega arith)),
      )

-- a byte that finds a row finds its own
none_found : (o : Option Row) → is_row o ≡ false → o ≡ none
none_found none e = refl
none_found (some r) e = absurd (true≢false e)

pub row-found : (stage code : ℕ) → is_row (with_code (today.rows stage) code) ≡ true → with_code (today.rows stage) code ≡ some (row_of code)
row-found stage code h = by (with_code (today.rows stage) code) (found-today Own each-own stage code) h
  where
    Own : Row → Type 0
    Own r = row_of r.code ≡ r

    each-own : Each Own all_rows
    each-own = (refl, (refl, (refl, (refl, (refl, (refl, (refl, (refl, (refl, (refl, (refl, (refl, (refl, (refl, (refl, (refl, (refl, (refl, tt))))))))))))))))))

    by : (o : Option Row) → Found Own code o → is_row o ≡ true → o ≡ some (row_of code)
    by none f h = absurd (true≢false (sym h))
    by (some r) f h = ap some (sym f.1 ∙ ap row_of (sym f.0))

-- ---- decoding

-- Refusal 1 comes first.
module _ (h : Header) (known : Known) (s : List ℕ) (at stage : ℕ) where
  pub command-too-long : longest_sheet < length s → command_at today h known s at stage ≡ record { command = Err SheetTooLong; next = at }
  unfolding command_at
  command-too-long long = rw (lt-ltb longest_sheet (length s) long)

  pub command-at : length s ≤ longest_sheet → command_at today h known s at stage ≡ decoded today h known s at stage
  unfolding command_at
  command-at short = rw (le-ltb longest_sheet (length s) short)

-- The command at a place where its byte stands.
module _ (h : Header) (known : Known) (s : List ℕ) (at stage : ℕ) (inside : at < length s) where
  pub no_row : is_row (with_code (today.rows stage) (get_or s at 0)) ≡ false
      → decoded today h known s at stage ≡ record { command = Err (CommandNotAllowed at); next = at }
  unfolding decoded
  no_row z = simp (lt-leb (length s) at inside, none_found (with_code (today.rows stage) (get_or s at 0)) z)

  pub row-there : with_code (today.rows stage) (get_or s at 0) ≡ some (row_of (get_or s at 0))
      → decoded today h known s at stage ≡ whole_row h known s at (row_of (get_or s at 0))
  unfolding decoded
  row-there f = rw (lt-leb (length s) at inside, f)

-- A command whose byte is allowed: all of its bytes are there, or not.
module _ (h : Header) (known : Known) (s : List ℕ) (at code : ℕ) {bytes : ℕ} (e : bytes ≡ command_bytes code) where
  next-is : at + 1 + width (row_of code).operands ≡ at + bytes
  next-is = omega arith

  pub row_cut : length s < at + bytes → whole_row h known s at (row_of code) ≡ record { command = Err (SheetEnds (length s)); next = at }
  unfolding row_at
  row_cut l = rw (next-is, lt-ltb (length s) (at + bytes) l)

  pub row-whole : at + bytes ≤ length s → whole_row h known s at (row_of code) ≡ record { command = row_at h known s at (row_of code); next = at + bytes }
  unfolding row_at
  row-whole l = rw (next-is, le-ltb (length s) (at + bytes) l)
