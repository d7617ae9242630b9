-- Where each tone's bits and power stand among the bytes of a table.
-- Assumes nothing.
use mathlib.Core.List.{[], ◌∷◌}
use mathlib.Core.Path.{◌≡◌, sym, ◌∙◌}
use Prim.Native.Nat.{ℕ, ◌+◌, ◌*◌, ◌^◌, ◌≤◌, ◌<◌}
use native.Mathlib.Omega.{arith}
use lib.ListN.{get_or}
use Rattle.sizes.specs.Sizes.{bytes_a_tone}
use Rattle.lists.specs.Joined.{joined_below}
use Rattle.bigendian.specs.Number.{number, bytes}
use Rattle.bigendian.proofs.Numbers.{number-one, number-bytes, number-back}
use Rattle.bigendian.proofs.Parts.{number-in-part}
use Rattle.steps.specs.Tones.{Tones, Table, ◌!◌}
use Rattle.tables.specs.Tables.{tone_entry}
use Rattle.tables.proofs.Entries.{length-entry}

module _ (T : Tones) (t : Table) (n i : ℕ) (l : i < n) where
  -- the w bytes of tone i that begin k bytes after its first
  in_entry : (k w at : ℕ) → k + w ≤ bytes_a_tone → at ≡ bytes_a_tone * i + k → number (joined_below (tone_entry T t) n) at w ≡ number (tone_entry T t i) k w
  in_entry k w at = number-in-part (tone_entry T t) bytes_a_tone (length-entry T t) n i k w at l

  -- the bits of tone i, at 9 × i
  pub bits-stand : get_or (joined_below (tone_entry T t) n) (bytes_a_tone * i) 0 ≡ t ! i
  bits-stand = sym (number-one (joined_below (tone_entry T t) n) (bytes_a_tone * i)) ∙ in_entry 0 1 (bytes_a_tone * i) (omega arith) (omega arith) ∙ number-one (tone_entry T t i) 0

  -- its power, in the 8 bytes after them
  pub power-stands : T.power i (t ! i) < 256 ^ 8 → number (joined_below (tone_entry T t) n) (bytes_a_tone * i + 1) 8 ≡ T.power i (t ! i)
  power-stands s =
      in_entry 1 8 (bytes_a_tone * i + 1) (omega arith) (omega arith)
      ∙ number-back (t ! i ∷ []) (bytes 8 (T.power i (t ! i))) 0 8 1 (omega arith)
      ∙ number-bytes 8 (T.power i (t ! i)) s
