-- `first_guess` meets its contract: what is above 0 is no NaN, and the bits that it makes are no NaN's. Assumes nothing.
use Rattle.std.proofs.Common.{arith}
use Rattle.pixel.proofs.Bits.{low_bits}
use Rattle.pixel.proofs.root.first_guess.Goals as goal

pub float_from_bits-result : goal.float_from_bits-result
float_from_bits-result c = low_bits _ (omega arith)
