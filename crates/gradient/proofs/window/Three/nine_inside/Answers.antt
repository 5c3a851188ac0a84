-- `Three::nine_inside` meets its contract: the columns beside are the row's own. Assumes nothing.
use Rattle.gradient.specs.Nine.{HasBeside}
use Rattle.gradient.specs.Three.{three_of}
use Rattle.gradient.proofs.Nines.{beside_is}
use Rattle.gradient.proofs.window.Three.nine_inside.Goals as goal

pub returns : goal.returns
returns c =
    let t = three_of c.self.inside in
    let beside : HasBeside t c.args.x 1 = rw c.self.view_is c.requires in
    rw c.self.view_is at (beside_is t c.args.x beside.left beside.in_row c.self.invariant)
