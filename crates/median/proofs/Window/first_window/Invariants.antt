-- `first_window` meets its contract, column by column. Assumes nothing.
use Rattle.median.specs.Counts.{Holds}
use Rattle.median.proofs.Window.first_window.Given as goal

abbrev pub invariant-loop-c : goal.invariant-loop-c
invariant-loop-c l = Holds l.self.pixels.now l.self.size l.self.border l.self.rows.now 0 l.c l.counts
