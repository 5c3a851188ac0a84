-- `suppress_rows`: a picture filled row by row, the first row already. Assumes nothing.
use Rattle.std.proofs.Common.{◌*◌}
use Rattle.rules.proofs.Fill.{Filling}
use Rattle.rules.specs.Picture.{area, by_pixel}
use Rattle.rules.specs.Suppression.{suppressed_at}
use Rattle.gradient.proofs.suppression.suppress_rows.Given as goal

abbrev pub invariant-loop-y : goal.invariant-loop-y
invariant-loop-y l = Filling (area l.size) (l.y * l.width) (by_pixel l.size (suppressed_at l.size l.magnitude l.gx l.gy)) l.fn.out l.out
