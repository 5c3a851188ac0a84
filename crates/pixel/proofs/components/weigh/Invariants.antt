-- `weigh`: the sum so far, which nine terms of at most 510 keep within an i16. Assumes nothing.
use Rattle.std.proofs.Common.{◌*◌, ◌≡◌, ◌≤◌}
use lib.IntN.{nat_abs}
use Rattle.rules.specs.Gradient.{sum_z}
use Rattle.pixel.proofs.Weighing.{term}
use Rattle.pixel.proofs.components.weigh.Given as goal

abbrev pub invariant-loop-j : goal.invariant-loop-j
invariant-loop-j l =
    (nat_abs (sum_z (term l.weights l.nine) l.j) ≤ 510 * l.j) × (l.sum ≡ sum_z (term l.weights l.nine) l.j)
