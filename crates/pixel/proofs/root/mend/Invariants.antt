-- `mend`: m keeps its 24 digits, first too low or not, then not too low. Assumes nothing.
use Rattle.std.proofs.Common.{◌+◌, ◌-◌, ◌*◌, ◌^◌, ◌<◌, ◌≤◌}
use Rattle.pixel.proofs.root.mend.Given as goal

abbrev pub invariant-loop-m : goal.invariant-loop-m
invariant-loop-m l = l.m < 2 ^ 24

abbrev pub decreases-loop-m : goal.decreases-loop-m
decreases-loop-m l = 2 ^ 24 - l.m

abbrev pub invariant-loop-m-2 : goal.invariant-loop-m-2
invariant-loop-m-2 l = (l.m < 2 ^ 24) × (l.t ≤ l.m * l.m + l.m)

abbrev pub decreases-loop-m-2 : goal.decreases-loop-m-2
decreases-loop-m-2 l = l.m
