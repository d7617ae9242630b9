-- `silence::names_beyond` meets its contract. Assumes nothing.
use native.Mathlib.Omega.{arith}
use Prim.Native.Nat.{ℕ, ◌*◌, ◌-◌}
use mathlib.Core.Bool.{not}
use mathlib.Core.Path.{sym, ap, ◌∙◌}
use native.Mathlib.Nat.{div-one}
use lib.Dec.{eqb}
use Rattle.silence.proofs.Maps.{clear-beyond, beyond-shift}
use Rattle.silence.proofs.names_beyond.Goals as goal

pub returns-then-size-first : goal.returns-then-size-first
returns-then-size-first c =
    let a = c.args in
    ap (λ (m : ℕ). not (eqb m 0)) (sym (div-one a.map))
    ∙ beyond-shift a.size a.word a.map 0 c.ranges.map.fits (omega arith)

pub returns-then-inside-ge-WORD_TONES : goal.returns-then-inside-ge-WORD_TONES
returns-then-inside-ge-WORD_TONES c =
    let a = c.args in
    sym (clear-beyond a.size a.word a.map (λ k b h. omega arith))

pub returns : goal.returns
returns c =
    let a = c.args in
    beyond-shift a.size a.word a.map (a.size - a.word * 32) c.ranges.map.fits (omega arith)
