-- `clear` meets its contract: a loop that fills the entries that it is lent, no more than the buffer has. Assumes nothing.
use Rattle.std.proofs.Common.{length}
use Rattle.rules.proofs.Fill.{Filling}
use Rattle.scratch.proofs.clear.Given as goal

abbrev pub invariant-loop-entry : goal.invariant-loop-entry
invariant-loop-entry g l = Filling (length l.initial.entry-items) l.entry-index (λ k. l.zero) l.initial.entry-items l.entry-items
