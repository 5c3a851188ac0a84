-- `root_from` meets its contract: what is mended passes 01's tests, and only the root does. Assumes nothing.
use Rattle.std.proofs.Common.{arith, rules}
use Rattle.pixel.proofs.Mending.{shift_is, within, found, bits_fine, bits_are}
use Rattle.pixel.proofs.root.root_from.Goals as goal

pub overflow_sub-k-3 : goal.overflow_sub-k-3
overflow_sub-k-3 c = (shift_is c.requires).1.least

pub overflow_mul-t : goal.overflow_mul-t
overflow_mul-t c = record { fits = omega (arith, within c.requires c.four_of.ensures) }

pub mend-m-requires : goal.mend-m-requires
mend-m-requires c = let t = within c.requires c.four_of.ensures in search rules

pub overflow_sub-result-2 : goal.overflow_sub-result-2
overflow_sub-result-2 c = (found c.requires c.four_of.ensures c.mend-m.ensures).least

pub overflow_cast-result : goal.overflow_cast-result
overflow_cast-result c = record { fits = omega (arith, (found c.requires c.four_of.ensures c.mend-m.ensures).most) }

pub overflow_add-result : goal.overflow_add-result
overflow_add-result c = record { fits = omega (arith, (found c.requires c.four_of.ensures c.mend-m.ensures).most) }

pub float_from_bits-result : goal.float_from_bits-result
float_from_bits-result c = bits_fine c.requires c.four_of.ensures c.mend-m.ensures

pub returns : goal.returns
returns c = bits_are c.requires c.four_of.ensures c.mend-m.ensures
