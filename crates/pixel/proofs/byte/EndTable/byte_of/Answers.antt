-- `byte_of` meets its contract: eight halves of 256 bytes leave one. Assumes nothing.
use Rattle.std.proofs.Common.{rules}
use Rattle.pixel.proofs.Halving.{at_first}
use Rattle.pixel.proofs.byte.EndTable.byte_of.Goals as goal

pub half_by-n-requires : goal.half_by-n-requires
half_by-n-requires c = let a = at_first c.args.s in search rules
