-- `magnitude_by` meets its contract. Assumes nothing.
use Rattle.std.proofs.Common.{rules}
use Rattle.gradient.proofs.Entries.{magnitude_at_lem}
use Rattle.gradient.proofs.magnitude.magnitude_by.Goals as goal

pub returns : goal.returns
returns c = magnitude_at_lem c.args.gx.now c.args.gy.now c.args.i (search rules) (search rules) c.energy.ensures c.magnitude_of.ensures
