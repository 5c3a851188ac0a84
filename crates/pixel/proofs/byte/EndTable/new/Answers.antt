-- `EndTable::new`: the table has the ends. Assumes nothing.
use Rattle.pixel.proofs.Halving.{ends_are}
use Rattle.pixel.proofs.byte.EndTable.new.Goals as goal

pub invariant_of-result : goal.invariant_of-result
invariant_of-result c = record { holds = ends_are c.upper_ends.ensures }
