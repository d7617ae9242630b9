-- `line::power_of` meets its contract. Assumes nothing.
use mathlib.Core.Path.{◌≡◌}
use Prim.Native.Nat.{◌*◌, ◌%◌, ◌^◌}
use native.Mathlib.Nat.{mul-le-mul_left}
use native.Mathlib.Omega.{arith}
use lib.Pow.{pow_pos, shl_exact}
use Rattle.line.proofs.power_of.Goals.{Start}
use Rattle.line.proofs.power_of.Goals as goal

-- the shift loses no bit
exact : (c : Start) → (c.args.cost * 2 ^ (c.args.doublings * c.args.bits)) % 2 ^ 64
    ≡ c.args.cost * 2 ^ (c.args.doublings * c.args.bits)
exact c = shl_exact 24 (c.args.doublings * c.args.bits) 64 c.requires.cost_bound (omega (arith, c.requires.bits_bound))

pub overflow_sub-result : goal.overflow_sub-result
overflow_sub-result c =
    rw (exact (goal.at.overflow_sub-result c).Start) (omega (arith, mul-le-mul_left c.args.cost (pow_pos (c.args.doublings * c.args.bits))))

pub returns : goal.returns
returns c = rw (exact (goal.at.returns c).Start)
