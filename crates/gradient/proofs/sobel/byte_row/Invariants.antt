-- `byte_row`: the row, block by block. Assumes nothing.
use Rattle.std.proofs.Common.{◌-◌, length}
use Rattle.rules.proofs.Fill.{Filling}
use Rattle.gradient.specs.Rows.{byte_in}
use Rattle.gradient.proofs.sobel.byte_row.Given as goal

abbrev pub invariant-loop-at : goal.invariant-loop-at
invariant-loop-at l = Filling (length l.initial.out) l.at (byte_in l.three) l.initial.out l.out

abbrev pub decreases-loop-at : goal.decreases-loop-at
decreases-loop-at l = length l.initial.out - l.at
