-- `near` meets its contract: the bits of the sum hold a nearest whole number. Assumes nothing.
use native.Mathlib.Omega.{arith}
use Rattle.filters.proofs.Rounding.{near_is, near_most}
use Rattle.filters.proofs.byte.near.Goals as goal

pub float_to_bits-result : goal.float_to_bits-result
float_to_bits-result c = (near_is c.requires).0

pub overflow_sub-result : goal.overflow_sub-result
overflow_sub-result c = (near_is c.requires).1

pub overflow_cast-result : goal.overflow_cast-result
overflow_cast-result c = omega (arith, near_most (near_is c.requires).2)

pub returns : goal.returns
returns c = (near_is c.requires).2
