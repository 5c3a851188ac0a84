-- `byte_rows`: the buffer, row by row. Assumes nothing.
use Rattle.std.proofs.Common.{◌*◌}
use Rattle.rules.specs.Calls.{sobel_at}
use Rattle.rules.proofs.ByRows.{ByRows}
use Rattle.gradient.proofs.sobel.byte_rows.Given as goal

abbrev pub invariant-loop-y : goal.invariant-loop-y
invariant-loop-y l = ByRows l.size l.y (l.y * l.size.width) (sobel_at l.size l.border l.pixels) l.initial.out l.out
