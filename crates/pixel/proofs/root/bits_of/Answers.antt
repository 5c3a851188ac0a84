-- `bits_of` meets its contract: what is read back from a float's bits is the float. Assumes nothing.
use Rattle.std.proofs.Common.{refl}
use lib.Ieee.{binary32}
use lib.Ieee.Bits.{of_bits-to_bits}
use Rattle.rules.proofs.Bools.{is_true}
use Rattle.pixel.specs.Guess.{bits_from}
use Rattle.pixel.proofs.root.bits_of.Goals as goal

pub returns-then-y : goal.returns-then-y
unfolding bits_from
returns-then-y c = (rw c.if-y.true, λ n. of_bits-to_bits binary32 _ (is_true c.well_formed.0.1))

pub returns-else-y : goal.returns-else-y
unfolding bits_from
returns-else-y c = (rw c.if-y.false, λ n. absurd (n refl))
