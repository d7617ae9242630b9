-- `tidylengths::tidy_width` meets its contract. Assumes nothing.
use native.Mathlib.Omega.{arith}
use borrow.Author.Tests.{le-ltb, lt-ltb}
use Rattle.bigendian.specs.Number.{byte_base}
use Rattle.tidylengths.proofs.tidy_width.Goals as goal

pub returns-then-tone-lt-BYTE_TONES : goal.returns-then-tone-lt-BYTE_TONES
returns-then-tone-lt-BYTE_TONES c = (rw (lt-ltb c.args.tone byte_base c.if-tone-lt-BYTE_TONES.true), omega arith)

pub returns : goal.returns
returns c = (rw (le-ltb c.args.tone byte_base c.if-tone-lt-BYTE_TONES.false), omega arith)
