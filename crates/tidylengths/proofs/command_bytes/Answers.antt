-- `tidylengths::command_bytes` meets its contract. Assumes nothing.
use mathlib.Core.Path.{ap}
use native.Mathlib.Omega.{arith}
use lib.ListN.{length, get_or}
use Rattle.addresses.proofs.Widths.{width_low}
use Rattle.tidylengths.proofs.Commands.{length-command, some-copy}
use Rattle.tidylengths.proofs.command_bytes.Goals as goal

pub returns : goal.returns
returns c =
    let a = c.args in
    let there = c.requires.numbered (omega arith) in
    let code = get_or a.s.now a.place 0 in (
      omega (arith, length-command a.s.now a.tone a.place, ap length (some-copy a.s.now a.tone a.place (omega arith)), there),
      omega (arith, width_low code, there),
    )
