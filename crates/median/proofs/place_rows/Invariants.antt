-- `place_rows` meets its contract: a filling loop. Assumes nothing.
use Rattle.rules.proofs.Fill.{Filling}
use Rattle.median.specs.Counts.{row_place}
use Rattle.median.proofs.place_rows.Given as goal

abbrev pub invariant-loop-j : goal.invariant-loop-j
invariant-loop-j l = Filling l.window l.j (row_place l.size l.window l.border l.y) l.initial.rows l.rows
