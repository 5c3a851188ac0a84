-- `select` meets its contract: down while too many are below, up while too few are. Assumes nothing.
use Prim.Native.Nat.{◌-◌, ◌≤◌}
use Rattle.median.specs.Counts.{Middle}
use Rattle.median.proofs.select.Given as goal

abbrev pub invariant-loop-n : goal.invariant-loop-n
invariant-loop-n l = Middle l.counts l.v l.n

abbrev pub decreases-loop-n : goal.decreases-loop-n
decreases-loop-n l = l.v

abbrev pub invariant-loop-n-2 : goal.invariant-loop-n-2
invariant-loop-n-2 l = Middle l.counts l.v l.n × (l.n ≤ l.item)

abbrev pub decreases-loop-n-2 : goal.decreases-loop-n-2
decreases-loop-n-2 l = 256 - l.v
