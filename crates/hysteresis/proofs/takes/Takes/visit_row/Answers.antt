-- `visit_row` is three visits of one row. Assumes nothing.
use Rattle.hysteresis.specs.Around.{row}
use Rattle.hysteresis.proofs.takes.Takes.visit_row.Goals as goal

pub returns-clause-visited : goal.returns-clause-visited
unfolding row
returns-clause-visited c =
    let a = c.visit_at.ensures in
    let b = c.visit_at-2.ensures in
    rw (c.visit_at-3.ensures.visited, b.same.2, b.visited, a.same.2, a.visited)
