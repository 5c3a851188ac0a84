-- `wrap` meets its contract: the remainder that the machine gives, mended where it is negative. Assumes nothing.
use mathlib.Core.Path.{ap}
use native.Mathlib.Omega.{arith}
use Prim.Native.Nat.{ℕ, ◌*◌, ◌^◌, ◌<◌, ◌≤◌}
use lib.IntN.{nat_abs}
use Rattle.rules.specs.Limits.{max_side}
use Rattle.rules.proofs.Signed.{rem_is, sum_read}
use Rattle.border.proofs.coord.wrap.Goals as goal

-- the divisor is far from the type's end
small : {p : ℕ} → p ≤ 2 * max_side → p < 2 ^ 62
small h = omega arith

pub returns-then-r-lt0 : goal.returns-then-r-lt0
returns-then-r-lt0 c = ap nat_abs (sum_read _ _ c.ranges.c c.requires.0 (small c.requires.1) c.if-r-lt0.true)

pub returns-else-r-lt0 : goal.returns-else-r-lt0
returns-else-r-lt0 c = ap nat_abs (rem_is _ _ c.ranges.c c.requires.0 (small c.requires.1) c.if-r-lt0.false)
