-- `quantize` meets its contract: held, nearest, and one comparison with n and a half. Assumes nothing.
use native.Mathlib.Omega.{arith}
use mathlib.Core.Path.{◌≡◌, ◌∙◌}
use Prim.Native.Nat.{◌+◌, ◌<◌}
use Rattle.rules.specs.Sums.{to_byte}
use Rattle.filters.specs.Byte.{Small}
use Rattle.filters.proofs.Rounding.{held_is, rounds_down, rounds_up}
use Rattle.filters.proofs.byte.quantize.Goals as goal
use Rattle.filters.proofs.byte.quantize.Goals.{After-held-u, Else-u-half_above}

-- what is held is small, and its byte is the value's
small_is : (c : After-held-u) → Small c.held-u.result × (to_byte c.held-u.result ≡ to_byte c.args.v)
small_is c = rw c.held-u.ensures (held_is c.args.v)

-- from n and a half on, the byte is the next
up_is : (c : Else-u-half_above) → (c.near-n.result < 255) × (c.near-n.result + 1 ≡ to_byte c.held-u.result)
up_is c =
    let h : Small c.held-u.result × (to_byte c.held-u.result ≡ to_byte c.args.v) = rw c.held-u.ensures (held_is c.args.v) in
    rounds_up h.0 c.near-n.ensures (rw c.half_above.ensures at c.if-u-half_above.false)

pub near-n-requires : goal.near-n-requires
near-n-requires c =
    let h = small_is (goal.at.near-n-requires c).After-held-u in
    h.0

pub overflow_add-result : goal.overflow_add-result
overflow_add-result c =
    let u = up_is (goal.at.overflow_add-result c).Else-u-half_above in
    omega (arith, u.0)

pub returns-then-u-half_above : goal.returns-then-u-half_above
returns-then-u-half_above c =
    let h = small_is (goal.at.returns-then-u-half_above c).After-held-u in
    rounds_down c.near-n.ensures (rw c.half_above.ensures at c.if-u-half_above.true) ∙ h.1

pub returns-else-u-half_above : goal.returns-else-u-half_above
returns-else-u-half_above c =
    let h = small_is (goal.at.returns-else-u-half_above c).After-held-u in
    let u = up_is (goal.at.returns-else-u-half_above c).Else-u-half_above in
    u.1 ∙ h.1
