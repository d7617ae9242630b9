-- An induction over the reading of a sheet, said once: what holds before any command and is kept by each command that a format allows
-- gives what is wanted of the line that its bytes say.
-- Assumes nothing.
use mathlib.Core.List.{List, [], ◌∷◌}
use mathlib.Core.Path.{◌≡◌}
use Prim.Native.Nat.{ℕ, zero, suc, ◌+◌, ◌≤◌}
use native.Mathlib.Omega.{arith}
use borrow.Author.Tests.{ltb-false}
use lib.Dec.{ltb}
use lib.ListN.{length, get_or}
use Rattle.lists.proofs.Tests.{by-test}
use Rattle.line.specs.Line.{Line}
use Rattle.rows.specs.declared.Command.{Command}
use Rattle.rows.specs.declared.Command.TheVariants.{End, Head, Describe, Rest, High, Silence}
use Rattle.rows.specs.Rows.{Row, width}
use Rattle.addresses.specs.Addresses.{addressed}
use Rattle.command.specs.Format.{Format, is_too_long}
use Rattle.command.proofs.Walk.{seen_at, Passed, values, Each, by_rows}
use Rattle.sheet.specs.Reading.{Meaning, accepted, refused, header_of, SoFar, nothing, so_far_after, Next, stop, go, after_command, known_of, command_in, after_decoded, read_on, read_from, said_in}

-- what follows for any row follows for each of some rows
each_of : {P R : Row → Type 0} → ((r : Row) → P r → R r) → (rows : List Row) → Each P rows → Each R rows
each_of f [] h = tt
each_of f (r ∷ rs) h = (f r h.0, each_of f rs h.1)

module _ (F : Format) (s : List ℕ) (I : (at stage : ℕ) → SoFar → Type 0) (Q : Line → Type 0) where
  -- what holds after a command that brings the reading to a place
  abbrev pub Goes : (at stage : ℕ) → SoFar → (next : ℕ) → Command → Type 0
  Goes at stage x next End = next ≡ length s → Q x.line
  Goes at stage x next (Head h) = I next (suc stage) (so_far_after (Head h) s at x)
  Goes at stage x next (Describe i) = I next stage (so_far_after (Describe i) s at x)
  Goes at stage x next (Rest i) = I next stage (so_far_after (Rest i) s at x)
  Goes at stage x next (High i) = I next stage (so_far_after (High i) s at x)
  Goes at stage x next (Silence word map) = I next stage (so_far_after (Silence word map) s at x)

  -- the same of the command of a row, if its byte is there, and all of its operands, which pass
  abbrev pub Leads : (at stage : ℕ) → SoFar → Row → Type 0
  Leads at stage x r =
      get_or s at 0 ≡ r.code → at + 1 + width r.operands ≤ length s
      → Passed (seen_at (header_of x.line) (known_of x (addressed s at))) s (at + 1) r.operands
      → Goes at stage x (at + 1 + width r.operands) (r.does (header_of x.line) (values [] s (at + 1) r.operands))

  abbrev Means : Meaning → Type 0
  Means (accepted l) = Q l
  Means (refused q) = Unit {0}

  abbrev pub After : Next → Type 0
  After (stop m) = Means m
  After (go at stage x) = I at stage x

  module _ (kept : (at stage : ℕ) (x : SoFar) → I at stage x → Each (Leads at stage x) (F.rows stage)) where
    after : (at stage : ℕ) (x : SoFar) (next : ℕ) → next ≤ length s → (c : Command) → Goes at stage x next c → After (after_command c next s at stage x)
    after at stage x next inside End g = by-test Means (ltb next (length s)) (λ t. tt) (λ t. g (omega (arith, ltb-false next (length s) t)))
    after at stage x next inside (Head h) g = g
    after at stage x next inside (Describe i) g = g
    after at stage x next inside (Rest i) g = g
    after at stage x next inside (High i) g = g
    after at stage x next inside (Silence word map) g = g

    -- one command
    pub after_one : (at stage : ℕ) (x : SoFar) → I at stage x → After (after_decoded (command_in F x s at stage) s at stage x)
    after_one at stage x i =
        by_rows F (header_of x.line) (known_of x (addressed s at)) s at stage (λ d. After (after_decoded d s at stage x)) (λ q next. tt)
        (each_of (λ r k e inside p. after at stage x (at + 1 + width r.operands) inside (r.does (header_of x.line) (values [] s (at + 1) r.operands)) (k e inside p))
        (F.rows stage)
        (kept at stage x i))

    from : (most at stage : ℕ) (x : SoFar) → I at stage x → Means (read_from F most s at stage x)
    unfolding read_from
    from zero at stage x i = tt
    from (suc most) at stage x i = onward (after_decoded (command_in F x s at stage) s at stage x) (after_one at stage x i) (from most)
      where
        onward : (n : Next) → After n → ((at stage : ℕ) (x : SoFar) → I at stage x → Means (read_from F most s at stage x)) → Means (read_on n (read_from F most s))
        onward (stop m) a ih = a
        onward (go at stage x) a ih = ih at stage x a

    means : I 0 0 nothing → Means (said_in F s)
    unfolding said_in
    means i = by-test Means (is_too_long F s) (λ t. tt) (λ t. from (suc (length s)) 0 0 nothing i)

    pub said-by : I 0 0 nothing → (l : Line) → said_in F s ≡ accepted l → Q l
    said-by i l e = rw e at (means i)
