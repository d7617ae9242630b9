-- The walk over the rows: what holds of a refusal, and of what each row does of operands that pass, holds of the command at a place.
-- Assumes nothing.
use mathlib.Core.Bool.{Bool, true, false, cond}
use mathlib.Core.List.{List, [], ◌∷◌, ◌++◌}
use mathlib.Core.Option.{Option, none, some}
use mathlib.Core.Path.{◌≡◌, refl}
use Prim.Native.Nat.{ℕ, ◌+◌, ◌≤◌}
use native.Mathlib.Decide.{ℕ_discrete}
use native.Mathlib.Omega.{arith}
use borrow.Author.Tests.{eq-eqb, ne_eqb, ltb-false}
use lib.Dec.{ltb, leb}
use lib.ListN.{length, get_or}
use Rattle.std.specs.Prelude.{Result, Ok, Err}
use Rattle.lists.proofs.Tests.{by-test}
use Rattle.bigendian.specs.Number.{number}
use Rattle.refusals.specs.declared.Refusal.{Refusal}
use Rattle.rows.specs.declared.Header.{Header}
use Rattle.rows.specs.declared.Command.{Command}
use Rattle.rows.specs.declared.Decoded.{Decoded}
use Rattle.rows.specs.Rows.{Known, Seen, Operand, Row, width, with_code, judged, operands_from, row_at}
use Rattle.command.specs.Format.{Format, decoded_row, decoded}

-- ---- the row that a command byte finds

-- what holds of each row of a list
abbrev pub Each : (Row → Type 0) → List Row → Type 0
Each P [] = Unit {0}
Each P (r ∷ rs) = P r × Each P rs

-- a row found by its byte, of which something holds
abbrev pub Found : (Row → Type 0) → (code : ℕ) → Option Row → Type 0
Found P code none = Unit {0}
Found P code (some r) = (code ≡ r.code) × P r

pub found : (P : Row → Type 0) (code : ℕ) (rs : List Row) → Each P rs → Found P code (with_code rs code)
found P code [] each = tt
found P code (r ∷ rs) each = by (found P code rs each.1) (ℕ_discrete code r.code)
  where
    by : Found P code (with_code rs code) → Dec (code ≡ r.code) → Found P code (with_code (r ∷ rs) code)
    by later (yes e) = rw (eq-eqb code r.code e) (e, each.0)
    by later (no ne) = rw (ne_eqb code r.code ne) later

-- ---- its operands

-- what the first operand of a command sees
abbrev pub seen_at : Header → (known : Known) → Seen
seen_at h known = record { header = h; known = known; before = [] }

-- the operands from a place on are met by no refusal
abbrev pub Passed : Seen → List ℕ → (at : ℕ) → List Operand → Type 0
Passed seen s at [] = Unit {0}
Passed seen s at (o ∷ os) =
    (o.judge seen (number s at o.width) at ≡ none)
    × Passed (record { header = seen.header; known = seen.known; before = seen.before ++ (number s at o.width ∷ []) }) s (at + o.width) os

-- the values of the operands, those before a place and those from there on
abbrev pub values : List ℕ → List ℕ → (at : ℕ) → List Operand → List ℕ
values before s at [] = before
values before s at (o ∷ os) = values (before ++ (number s at o.width ∷ [])) s (at + o.width) os

-- the first of them is there from the first on
pub first-value : (v : ℕ) (before s : List ℕ) (at : ℕ) (os : List Operand) → get_or (values (v ∷ before) s at os) 0 0 ≡ v
first-value v before s at [] = refl
first-value v before s at (o ∷ os) = first-value v (before ++ (number s at o.width ∷ [])) s (at + o.width) os

-- what holds of a refusal, and of what a command does of operands that pass, holds of what the operands come to
pub by-operands : (P : Result Command Refusal → Type 0) → ((q : Refusal) → P (Err q)) → (seen : Seen) (s : List ℕ) (at : ℕ) (os : List Operand) (does : List ℕ → Command)
    → (Passed seen s at os → P (Ok (does (values seen.before s at os)))) → P (operands_from seen s at os does)
by-operands P turned seen s at [] does h = h tt
by-operands P turned seen s at (o ∷ os) does h =
    by-judge (o.judge seen (number s at o.width) at) (λ e. by-operands P turned (record { header = seen.header; known = seen.known; before = seen.before ++ (number s at o.width ∷ []) }) s (at + o.width) os does (λ p. h (e, p)))
  where
    by-judge : (q : Option Refusal) {c : Result Command Refusal} → (q ≡ none → P c) → P (judged q c)
    by-judge (some r) k = turned r
    by-judge none k = k refl

-- a test that would refuse fails
pub passes : (t : Bool) (r : Refusal) (o : Option Refusal) → cond t (some r) o ≡ none → (t ≡ false) × (o ≡ none)
passes true r o e =
    let z : ◌≡◌ {A = ℕ} 0 1 = cc in
    absurd (omega arith)
passes false r o e = (refl, e)

-- a test that would take passes
pub takes : (t : Bool) (o : Option Refusal) (r : Refusal) → cond t o (some r) ≡ none → (t ≡ true) × (o ≡ none)
takes true o r e = (refl, e)
takes false o r e =
    let z : ◌≡◌ {A = ℕ} 0 1 = cc in
    absurd (omega arith)

pub in_within : (v low high : ℕ) (r q : Refusal) → cond (ltb v low) (some r) (cond (ltb high v) (some q) none) ≡ none → (low ≤ v) × (v ≤ high)
in_within v low high r q e =
    let f = passes (ltb v low) r _ e in
    (ltb-false v low f.0, ltb-false high v (passes (ltb high v) q none f.1).0)

-- ---- the command at a place

-- what a row does, where the command is its own, its bytes are there and its operands pass
abbrev pub Does : (Decoded → Type 0) → Header → (known : Known) → List ℕ → (at : ℕ) → Row → Type 0
Does P h known s at r =
    get_or s at 0 ≡ r.code → at + 1 + width r.operands ≤ length s → Passed (seen_at h known) s (at + 1) r.operands
    → P (record { command = Ok (r.does h (values [] s (at + 1) r.operands)); next = at + 1 + width r.operands })

-- What holds of a refusal, and of what each row of a stage does, holds of the command that is decoded there.
pub by_rows : (F : Format) (h : Header) (known : Known) (s : List ℕ) (at stage : ℕ) (P : Decoded → Type 0)
    → ((q : Refusal) (next : ℕ) → P (record { command = Err q; next = next }))
    → Each (Does P h known s at) (F.rows stage)
    → P (decoded F h known s at stage)
unfolding decoded row_at
by_rows F h known s at stage P turned each =
    by-test P (leb (length s) at) (λ e. turned _ at) (λ e. by-found (with_code (F.rows stage) (get_or s at 0)) (found _ (get_or s at 0) (F.rows stage) each))
  where
    by-found : (o : Option Row) → Found (Does P h known s at) (get_or s at 0) o → P (decoded_row h known s at o)
    by-found none f = turned _ at
    by-found (some r) f =
        let next = at + 1 + width r.operands in
        by-test P (ltb (length s) next) (λ e. turned _ at)
        (λ e. by-operands (λ c. P (record { command = c; next = next })) (λ q. turned q next) (seen_at h known) s (at + 1) r.operands (r.does h)
        (f.1 f.0 (ltb-false _ _ e)))
