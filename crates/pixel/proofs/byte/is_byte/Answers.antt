-- `is_byte` meets its contract: a byte between two ends, or above the last. Assumes nothing.
use Rattle.std.proofs.Common.{refl}
use Rattle.pixel.proofs.Ends.{passes}
use Rattle.pixel.proofs.byte.is_byte.Goals as goal

pub returns : goal.returns
returns c t e = passes _ _ _ refl t e
