-- `guarded::raise_tone` meets its contract. Assumes nothing.
use native.Mathlib.Omega.{arith}
use borrow.Author.Tests.{le-ltb, lt-ltb}
use Rattle.guarded.proofs.raise_tone.Goals.{then-noted-lt1-via-then-noted-lt1, then-noted-lt1-via-else-noted-lt1+then-silenced}
use Rattle.guarded.proofs.raise_tone.Goals as goal

pub returns-then-noted-lt1 : goal.returns-then-noted-lt1
returns-then-noted-lt1 c =
    elim c.then-noted-lt1.branch [
      | then-noted-lt1-via-then-noted-lt1 w ↦ rw (le-ltb 0 c.args.noted.high (omega (arith, w.if-noted-lt1.true)))
      | then-noted-lt1-via-else-noted-lt1+then-silenced w ↦ simp (lt-ltb 0 c.args.noted.high (omega (arith, w.if-noted-lt1.false)), w.if-silenced.true)
    ]

pub steps_of-requires : goal.steps_of-requires
steps_of-requires c = rw (c.with_noise.ensures, c.tone_at-tone.ensures, c.high_at-noise.ensures) (c.requires c.if-noted-lt1.false)

pub returns : goal.returns
returns c =
    simp (
      lt-ltb 0 c.args.noted.high c.if-noted-lt1.false,
      c.if-silenced.false,
      c.steps_of.ensures,
      c.with_noise.ensures,
      c.tone_at-tone.ensures,
      c.high_at-noise.ensures,
    )
