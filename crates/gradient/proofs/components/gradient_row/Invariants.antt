-- `gradient_row`: both buffers, by three filling loops in turn. Assumes nothing.
use Rattle.gradient.proofs.Rows.{BothFilled}
use Rattle.gradient.proofs.components.gradient_row.Given as goal

abbrev pub invariant-loop-x : goal.invariant-loop-x
invariant-loop-x l = BothFilled l.three l.x l.fn.gx l.fn.gy l.gx l.gy

abbrev pub invariant-loop-x-2 : goal.invariant-loop-x-2
invariant-loop-x-2 l = BothFilled l.three l.x l.fn.gx l.fn.gy l.gx l.gy

abbrev pub invariant-loop-x-3 : goal.invariant-loop-x-3
invariant-loop-x-3 l = BothFilled l.three l.x l.fn.gx l.fn.gy l.gx l.gy
