-- `limits::put_limit` meets its contract. Assumes nothing.
use mathlib.Core.Path.{◌≡◌, refl}
use denote.Enum.Declared.{tag_of}
use native.Mathlib.Numerals.{add-one}
use native.Mathlib.Omega.{arith}
use lib.ListN.{length-set}
use Rattle.line.specs.declared.SetBy.{SetBy}
use Rattle.line.specs.declared.SetBy.TheVariants.{Silent, Cap, Mask}
use Rattle.line.specs.contracts.SetBy.{the_type}
use Rattle.limits.specs.Limits.{set_by_number}
use Rattle.limits.proofs.put_limit.Goals as goal

-- what set a limit is numbered in the order in which it is declared
numbered : (by : SetBy) → tag_of the_type by ≡ set_by_number by
numbered Silent = refl
numbered Cap = refl
numbered Mask = refl

pub bounds-out-at-2 : goal.bounds-out-at-2
bounds-out-at-2 c = simp length-set (omega arith)

pub returns : goal.returns
returns c = rw (add-one, numbered c.args.limit.by)
