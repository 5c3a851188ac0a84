-- `median_rows` meets its contract: no columns, or row by row. Assumes nothing.
use Rattle.border.proofs.Writing.{Rows}
use Rattle.median.specs.Counts.{median_of}
use Rattle.median.proofs.median_rows.Given as goal

abbrev pub invariant-loop-y : goal.invariant-loop-y
invariant-loop-y l = Rows l.size l.y (median_of l.size l.window l.border l.pixels) l.initial.out l.out
