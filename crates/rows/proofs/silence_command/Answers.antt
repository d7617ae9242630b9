-- `rows::silence_command` meets its contract. Assumes nothing.
use mathlib.Core.Path.{◌≡◌, refl, sym, ap, ◌∙◌}
use Prim.Native.Nat.{◌+◌}
use native.Mathlib.Omega.{arith}
use Rattle.std.specs.Prelude.{Err}
use Rattle.bigendian.specs.Number.{number}
use Rattle.bigendian.proofs.Numbers.{number-there}
use Rattle.rows.proofs.Judging.{above, in_range, silence-operands}
use Rattle.rows.proofs.silence_command.Goals.{After-number_at-map}
use Rattle.rows.proofs.silence_command.Goals as goal

-- the map is there, and is read
map_read : (c : After-number_at-map) → let a = c.args in c.number_at-map.result ≡ number a.s.now (a.at + 2) 4
map_read c = c.number_at-map.ensures.meaning ∙ number-there _ _ 4 (omega arith) (omega arith)

pub returns-then-word-ge-WORDS : goal.returns-then-word-ge-WORDS
returns-then-word-ge-WORDS c known =
    ap Err c.out_of_range.ensures ∙ sym (silence-operands _ known _ _ ∙ above _ _ _ _ refl (omega arith) (omega arith))

pub returns-then-names_beyond : goal.returns-then-names_beyond
returns-then-names_beyond c known =
    sym
    (silence-operands _ known _ _
    ∙ in_range _ _ _ _ refl (omega arith) (omega arith)
    ∙ rw (sym (map_read (goal.at.returns-then-names_beyond c).After-number_at-map), sym c.names_beyond.ensures, c.if-names_beyond.true))

pub returns : goal.returns
returns c known =
    sym
    (silence-operands _ known _ _
    ∙ in_range _ _ _ _ refl (omega arith) (omega arith)
    ∙ rw (sym (map_read (goal.at.returns c).After-number_at-map), sym c.names_beyond.ensures, c.if-names_beyond.false))
