-- `suppress_row`: a filling loop after a single store. Assumes nothing.
use Rattle.std.proofs.Common.{length}
use Rattle.rules.proofs.Fill.{Filling}
use Rattle.gradient.specs.Beside.{row_at}
use Rattle.gradient.proofs.suppression.suppress_row.Given as goal

abbrev pub invariant-loop-x : goal.invariant-loop-x
invariant-loop-x l = Filling (length l.fn.out) l.x (row_at (length l.fn.out) l.magnitude l.gx l.gy l.start) l.fn.out l.out
