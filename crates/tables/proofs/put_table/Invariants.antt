-- `tables::put_table` meets its contract. Between the turns the entries of the tones below the index are written. Assumes nothing.
use Prim.Native.Nat.{◌*◌}
use Rattle.sizes.specs.Sizes.{bytes_a_tone}
use Rattle.lists.proofs.Joined.{Written}
use Rattle.tables.specs.Tables.{tone_entry}
use Rattle.tables.proofs.Entries.{plain}
use Rattle.tables.proofs.put_table.Given as goal

abbrev pub invariant-loop-tone : goal.invariant-loop-tone
invariant-loop-tone l = Written (tone_entry (plain l.tones) l.bits) l.initial.out 0 l.tone l.out (bytes_a_tone * l.tone)
