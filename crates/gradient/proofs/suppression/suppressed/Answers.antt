-- `suppressed` meets its contract: all the neighbours are read, and the sector's offset chooses two of them. Assumes nothing.
use Rattle.std.proofs.Common.{rules}
use Rattle.gradient.proofs.Neighbours.{kept_is}
use Rattle.gradient.proofs.suppression.suppressed.Goals as goal

pub returns : goal.returns
returns c =
    let a = c.args in
    kept_is a.width a.magnitude.now a.gx.now a.gy.now a.i (search rules) (search rules) c.sector.ensures c.first_neighbour-to.ensures
    c.neighbour_at-first.ensures c.neighbour_opposite-second.ensures c.pick.ensures
