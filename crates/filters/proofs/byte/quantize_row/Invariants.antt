-- `quantize_row` meets its contract: a filling loop. Assumes nothing.
use lib.ListN.{length, get_or}
use lib.Ieee.{nan}
use Rattle.rules.specs.Sums.{to_byte}
use Rattle.rules.proofs.Fill.{Filling}
use Rattle.filters.proofs.byte.quantize_row.Given as goal

abbrev pub invariant-loop-i : goal.invariant-loop-i
invariant-loop-i l = Filling (length l.initial.out) l.i (λ k. to_byte (get_or l.sums k nan)) l.initial.out l.out
