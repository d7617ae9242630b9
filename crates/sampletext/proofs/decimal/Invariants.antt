-- `sampletext::decimal` meets its contract. The loop's invariant: what the value and the characters from the turn's on spell is what the text from `from` on spells. Assumes nothing.
use Rattle.std.proofs.Common.{◌≡◌, drop}
use Rattle.sampletext.specs.Text.{spelled}
use Rattle.sampletext.proofs.decimal.Given as goal

abbrev pub invariant-loop-i : goal.invariant-loop-i
invariant-loop-i l = spelled l.value (drop l.i l.c-items) ≡ spelled 0 (drop l.from l.text)
