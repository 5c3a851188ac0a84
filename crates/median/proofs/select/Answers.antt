-- `select` meets its contract: down while too many are below, up while too few are. Assumes nothing.
use native.Mathlib.Omega.{arith}
use mathlib.Core.Path.{◌≡◌}
use Prim.Native.Nat.{◌+◌, ◌-◌, ◌<◌}
use lib.ListN.{get_or}
use Rattle.median.specs.Counts.{counted_below}
use Rattle.median.proofs.Counting.{one_down, one_up}
use Rattle.median.proofs.select.Goals as goal

pub loop-n-init : goal.loop-n-init
loop-n-init c = c.requires.1

pub overflow_sub-v : goal.overflow_sub-v
overflow_sub-v c =
    -- where too many are below v, there is a value before it
    let d : (0 < c.loop-n.v) × (c.loop-n.n ≡ counted_below c.args.counts.now (c.loop-n.v - 1) + get_or c.args.counts.now (c.loop-n.v - 1) 0) = one_down c.loop-n.invariant c.loop-n-test.true in
    d.0

pub overflow_sub-n : goal.overflow_sub-n
overflow_sub-n c =
    let d : (0 < c.loop-n.v) × (c.loop-n.n ≡ counted_below c.args.counts.now (c.loop-n.v - 1) + get_or c.args.counts.now (c.loop-n.v - 1) 0) = one_down c.loop-n.invariant c.loop-n-test.true in
    omega (arith, d.1)

pub loop-n-smaller : goal.loop-n-smaller
loop-n-smaller c =
    let d : (0 < c.loop-n.v) × (c.loop-n.n ≡ counted_below c.args.counts.now (c.loop-n.v - 1) + get_or c.args.counts.now (c.loop-n.v - 1) 0) = one_down c.loop-n.invariant c.loop-n-test.true in
    omega (arith, d.0)

pub loop-n-preserved : goal.loop-n-preserved
loop-n-preserved c =
    let d : (0 < c.loop-n.v) × (c.loop-n.n ≡ counted_below c.args.counts.now (c.loop-n.v - 1) + get_or c.args.counts.now (c.loop-n.v - 1) 0) = one_down c.loop-n.invariant c.loop-n-test.true in
    record { byte = omega (arith, c.loop-n.invariant.byte); lower = omega arith }

pub overflow_cast-counts : goal.overflow_cast-counts
overflow_cast-counts c = omega (arith, c.requires.0.small c.loop-n-2.v)

pub overflow_add-n : goal.overflow_add-n
overflow_add-n c = omega (arith, c.requires.0.small c.loop-n-2.v, c.requires.3, c.loop-n-2.invariant.1)

pub loop-n-2-preserved : goal.loop-n-2-preserved
loop-n-2-preserved c = (one_up c.loop-n-2.invariant.0 c.requires.2 c.loop-n-2-test.true, c.loop-n-2-test.true)
