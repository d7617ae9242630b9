-- `tidylengths::tone_bytes` meets its contract. Assumes nothing.
use mathlib.Core.Path.{ap}
use native.Mathlib.Omega.{arith}
use lib.ListN.{length}
use Rattle.tidylengths.specs.Copies.{AllInside}
use Rattle.tidylengths.proofs.Commands.{nothing-kept, kept-inside, length-kept}
use Rattle.tidylengths.proofs.tone_bytes.Goals.{After-kept-kept}
use Rattle.tidylengths.proofs.tone_bytes.Goals as goal

-- the commands that are kept are all there
inside : (c : After-kept-kept) → AllInside c.args.s.now c.kept-kept.result
inside c = kept-inside c.args.s.now c.args.noted c.kept-kept.ensures c.requires

pub returns-then-noted-lt1-3 : goal.returns-then-noted-lt1-3
returns-then-noted-lt1-3 c =
    let a = c.args in
    let none = nothing-kept a.s.now a.tone a.noted.own a.noted.rest a.noted.high (omega arith) (omega arith) (omega arith) in
    (omega (arith, ap length none), omega arith)

pub command_bytes-requires : goal.command_bytes-requires
command_bytes-requires c = (inside (goal.at.command_bytes-requires c).After-kept-kept).own

pub command_bytes-requires-2 : goal.command_bytes-requires-2
command_bytes-requires-2 c = (inside (goal.at.command_bytes-requires-2 c).After-kept-kept).rest

pub command_bytes-requires-3 : goal.command_bytes-requires-3
command_bytes-requires-3 c = (inside (goal.at.command_bytes-requires-3 c).After-kept-kept).high

pub returns : goal.returns
returns c =
    let a = c.args in
    let all = length-kept a.s.now a.tone a.noted c.kept-kept.ensures in
    let own = c.command_bytes.ensures in
    let rest = c.command_bytes-2.ensures in
    let high = c.command_bytes-3.ensures in
    (omega (arith, all, own.0, rest.0, high.0), omega (arith, own.1, rest.1, high.1))
