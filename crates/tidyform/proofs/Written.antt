-- A written command reads back as what it does, wherever it stands in a sheet.
-- Assumes nothing.
use mathlib.Core.Path.{◌≡◌, refl, sym, ap, ◌∙◌}
use mathlib.Core.Bool.{false}
use mathlib.Core.List.{List, [], ◌∷◌, ◌++◌, append-nil, append_assoc}
use mathlib.Core.Option.{none, some}
use Rattle.std.specs.Prelude.{Ok}
use Prim.Native.Nat.{ℕ, zero, suc, ◌+◌, ◌^◌, ◌≤◌, ◌<◌}
use native.Mathlib.Omega.{arith}
use borrow.Author.Tests.{le-ltb, lt-leb}
use lib.Dec.{leb, ltb}
use lib.ListN.{length, get_or, drop, length-append, length-drop}
use lib.Seq.{get_or-drop, drop-drop, drop_at}
use Rattle.bigendian.specs.Number.{number, bytes}
use Rattle.bigendian.proofs.Numbers.{number_same, number-here, length-bytes}
use Rattle.rows.specs.declared.Command.{Command}
use Rattle.rows.specs.Rows.{Seen, Operand, Row, with_code, width, operands_from, row_at, end}
use Rattle.addresses.specs.Addresses.{number_width, addressed}
use Rattle.command.specs.Format.{today, decoded}
use Rattle.command.proofs.Walk.{seen_at}
use Rattle.sheet.specs.Reading.{Meaning, accepted, header_of, SoFar, go, after_command, known_of, command_in, read_from}
use Rattle.tidyform.specs.Tidy.{operand_bytes, written}

-- What stands in a sheet from a place on.

pub byte-stands : (s q : List ℕ) (at v : ℕ) → drop at s ≡ v ∷ q → get_or s at 0 ≡ v
byte-stands s q at v e =
    let z : at ≡ at + 0 = omega arith in
    ap (λ (k : ℕ). get_or s k 0) z ∙ sym (get_or-drop at s 0 0) ∙ ap (λ (t : List ℕ). get_or t 0 0) e

pub number-stands : (s q : List ℕ) (at w v : ℕ) → v < 256 ^ w → drop at s ≡ bytes w v ++ q → number s at w ≡ v
number-stands s q at w v h e = number_same s (drop at s) at 0 w same ∙ ap (λ (t : List ℕ). number t 0 w) e ∙ number-here [] q w v 0 refl h
  where
    same : (i : ℕ) → i < w → get_or s (at + i) 0 ≡ get_or (drop at s) (0 + i) 0
    same i l =
        let z : 0 + i ≡ i = omega arith in
        rw (z, get_or-drop)

-- the tone that is addressed there
addressed-drop : (s : List ℕ) (at : ℕ) → addressed s at ≡ addressed (drop at s) 0
addressed-drop s at =
    let here : get_or s at 0 ≡ get_or (drop at s) 0 0 = ap (λ (k : ℕ). get_or s k 0) (omega arith) ∙ sym (get_or-drop at s 0 0) in
    number_same s (drop at s) (at + 1) (0 + 1) (number_width (get_or s at 0)) (λ i l. next i)
    ∙ ap (λ (code : ℕ). number (drop at s) (0 + 1) (number_width code)) here
  where
    next : (i : ℕ) → get_or s (at + 1 + i) 0 ≡ get_or (drop at s) (0 + 1 + i) 0
    next i =
        let z : at + 1 + i ≡ at + (0 + 1 + i) = omega arith in
        rw (z, get_or-drop)

-- a written command addresses the tone whose number stands first
pub addresses-written : (code w i : ℕ) (rest : List ℕ) → number_width code ≡ w → i < 256 ^ w → (q : List ℕ) → addressed ((code ∷ (bytes w i ++ rest)) ++ q) 0 ≡ i
addresses-written code w i rest wide small q =
    rw (wide, append_assoc (bytes w i) rest q) (number-here (code ∷ []) (rest ++ q) w i 1 refl small)

-- what stands after it
pub stands_after : (s p q : List ℕ) (at w : ℕ) → length p ≡ w → drop at s ≡ p ++ q → drop (at + w) s ≡ q
stands_after s p q at w l e = sym (drop-drop w at s) ∙ ap (drop w) e ∙ drop_at p q w l

pub stands-length : (s q : List ℕ) (at : ℕ) → at ≤ length s → drop at s ≡ q → length s ≡ at + length q
stands-length s q at h e = omega (arith, ap length e, length-drop at s)

-- Operands.

-- what the next operand is judged by
abbrev pub after : Seen → (value : ℕ) → Seen
after seen v = record { header = seen.header; known = seen.known; before = seen.before ++ (v ∷ []) }

-- what the first is judged by, with what is read so far, where these bytes stand
abbrev pub seen_in : SoFar → List ℕ → Seen
seen_in x q = seen_at (header_of x.line) (known_of x (addressed q 0))

-- the values fit their operands' widths and meet no refusal
pub data Good : Seen → List Operand → (values : List ℕ) → Type 0 where
  no_value : {seen : Seen} → Good seen [] []
  value : {seen : Seen} {o : Operand} {os : List Operand} {v : ℕ} {vs : List ℕ} → v < 256 ^ o.width → ((place : ℕ) → o.judge seen v place ≡ none)
      → Good (after seen v) os vs → Good seen (o ∷ os) (v ∷ vs)

length-operands : {seen : Seen} {os : List Operand} {vs : List ℕ} → Good seen os vs → length (operand_bytes os vs) ≡ width os
length-operands no_value = refl
length-operands (value {o = o} {v = v} h p g) = simp (length-append, length-bytes) (omega (arith, length-operands g))

-- The values of operands stand in a sheet, one after the other from a place on.
abbrev pub Stand : List ℕ → (at : ℕ) → List Operand → (values : List ℕ) → Type 0
Stand s at [] vs = Unit {0}
Stand s at (o ∷ os) [] = ⊥
Stand s at (o ∷ os) (v ∷ vs) = (number s at o.width ≡ v) × Stand s (at + o.width) os vs

-- as their bytes do
pub operands-stand : {seen : Seen} {os : List Operand} {vs : List ℕ} (s q : List ℕ) (at : ℕ) → Good seen os vs → drop at s ≡ operand_bytes os vs ++ q → Stand s at os vs
operands-stand s q at no_value e = tt
operands-stand s q at (value {o = o} {os = os} {v = v} {vs = vs} h p g) e =
    let rest : List ℕ = operand_bytes os vs ++ q in
    let e' : drop at s ≡ bytes o.width v ++ rest = e ∙ append_assoc (bytes o.width v) (operand_bytes os vs) q in (
      number-stands s rest at o.width v h e',
      operands-stand s q (at + o.width) g (stands_after s (bytes o.width v) rest at o.width (length-bytes o.width v) e'),
    )

-- and the command then does what their values do
operands-done : {seen : Seen} {os : List Operand} {vs : List ℕ} (s : List ℕ) (at : ℕ) (does : List ℕ → Command) → Good seen os vs → Stand s at os vs
    → operands_from seen s at os does ≡ Ok (does (seen.before ++ vs))
operands-done {seen} s at does no_value st = ap (λ (before : List ℕ). Ok (does before)) (sym (append-nil seen.before))
operands-done {seen} s at does (value {o = o} {v = v} {vs = vs} h p g) st =
    rw (st.0, p at) (operands-done s (at + o.width) does g st.1 ∙ ap (λ (before : List ℕ). Ok (does before)) (append_assoc seen.before (v ∷ []) vs))

-- Commands.

-- wherever a sheet ends in this list, reading on from there comes out so
abbrev pub Reads : List ℕ → (stage : ℕ) → SoFar → Meaning → Type 0
Reads q stage x out = (s : List ℕ) (at most : ℕ) → at ≤ length s → drop at s ≡ q → length q < most → read_from today most s at stage x ≡ out

-- the place after a command
abbrev pub next : Row → (at : ℕ) → ℕ
next r at = at + 1 + width r.operands

module _ (x : SoFar) (stage : ℕ) (r : Row) (vs q : List ℕ) (found : with_code (today.rows stage) r.code ≡ some r)
    (good : Good (seen_in x (written r vs ++ q)) r.operands vs) where
  length-written : length (written r vs ++ q) ≡ 1 + width r.operands + length q
  length-written = simp length-append (omega (arith, length-operands good))

  module _ (s : List ℕ) (at : ℕ) (e : drop at s ≡ written r vs ++ q) where
    operands-there : drop (at + 1) s ≡ operand_bytes r.operands vs ++ q
    operands-there = stands_after s (r.code ∷ []) (operand_bytes r.operands vs ++ q) at 1 refl e

    next-stands : drop (next r at) s ≡ q
    next-stands = stands_after s (operand_bytes r.operands vs) q (at + 1) (width r.operands) (length-operands good) operands-there

    length-sheet : at ≤ length s → length s ≡ next r at + length q
    length-sheet h = omega (arith, stands-length s (written r vs ++ q) at h e, length-written)

    code-stands : get_or s at 0 ≡ r.code
    code-stands = byte-stands s (operand_bytes r.operands vs ++ q) at r.code e

    values-stand : Stand s (at + 1) r.operands vs
    values-stand = operands-stand s q (at + 1) good operands-there

    command-stands : at ≤ length s → command_in today x s at stage ≡ record { command = Ok (r.does (header_of x.line) vs); next = next r at }
    unfolding decoded row_at
    command-stands h =
        let there : leb (length s) at ≡ false = lt-leb (length s) at (omega (arith, length-sheet h)) in
        let whole : ltb (length s) (next r at) ≡ false = le-ltb (length s) (next r at) (omega (arith, length-sheet h)) in
        let tone : addressed s at ≡ addressed (written r vs ++ q) 0 = addressed-drop s at ∙ ap (λ (t : List ℕ). addressed t 0) e in
        rw (there, tone, code-stands, found, whole, operands-done s (at + 1) (r.does (header_of x.line)) good values-stand)

  -- what comes of the bytes after the command, from what it leaves, comes of them all
  pub reads-written : {stage' : ℕ} {x' : SoFar} {out : Meaning}
      → ((s : List ℕ) (at : ℕ) → get_or s at 0 ≡ r.code → next r at ≤ length s → Stand s (at + 1) r.operands vs
      → after_command (r.does (header_of x.line) vs) (next r at) s at stage x ≡ go (next r at) stage' x')
      → Reads q stage' x' out → Reads (written r vs ++ q) stage x out
  unfolding read_from
  reads-written goes reads s at zero h e m = absurd (omega arith)
  reads-written goes reads s at (suc most) h e m =
      rw (command-stands s at e h, goes s at (code-stands s at e) (omega (arith, length-sheet s at e h)) (values-stand s at e))
      (reads s (next r at) most (omega (arith, length-sheet s at e h)) (next-stands s at e) (omega (arith, length-written)))

-- the end command, at the end
pub reads_end : (x : SoFar) → Reads (written end []) 3 x (accepted x.line)
unfolding read_from
reads_end x s at zero h e m = absurd (omega arith)
reads_end x s at (suc most) h e m =
    let last : ltb (next end at) (length s) ≡ false = le-ltb (next end at) (length s) (omega (arith, stands-length s (written end []) at h e)) in
    rw (command-stands x 3 end [] [] refl no_value s at e h, last)
