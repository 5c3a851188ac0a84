-- `Line::fill` ends and stays inside the buffer: what is left to read gets shorter. Assumes nothing.
use Rattle.std.proofs.Common.{◌≤◌, ◌≡◌, length}
use Rattle.cases.proofs.line.Line.fill.Given as goal

abbrev pub invariant-loop-value : goal.invariant-loop-value
invariant-loop-value l = (l.n ≤ length l.initial.out) × (length l.out ≡ length l.initial.out)

abbrev pub decreases-loop-value : goal.decreases-loop-value
decreases-loop-value l = length l.values
