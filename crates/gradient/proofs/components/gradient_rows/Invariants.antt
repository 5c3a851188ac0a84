-- `gradient_rows`: both buffers, row by row. Assumes nothing.
use Rattle.std.proofs.Common.{◌*◌}
use Rattle.rules.specs.Gradient.{gx_table, gy_table, gradient_at}
use Rattle.rules.proofs.ByRows.{ByRows}
use Rattle.gradient.proofs.components.gradient_rows.Given as goal

abbrev pub invariant-loop-y : goal.invariant-loop-y
invariant-loop-y l =
    ByRows l.size l.y (l.y * l.size.width) (gradient_at gx_table l.size l.border l.pixels) l.initial.gx l.gx
    × ByRows l.size l.y (l.y * l.size.width) (gradient_at gy_table l.size l.border l.pixels) l.initial.gy l.gy
