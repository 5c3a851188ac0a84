-- `put_column` meets its contract, sample by sample. Assumes nothing.
use mathlib.Core.Path.{◌≡◌}
use Prim.Native.Nat.{◌+◌}
use lib.ListN.{length}
use Rattle.median.specs.Counts.{column_at, belows}
use Rattle.median.proofs.Counting.{Changing}
use Rattle.median.proofs.Window.put_column.Given as goal

abbrev pub invariant-loop-row : goal.invariant-loop-row
invariant-loop-row l =
    let f = column_at l.pixels l.size l.rows l.x in
    Changing (λ c. c + 1) f (length l.rows) l.row-index l.initial.counts l.counts × (l.below ≡ l.fn.found.below + belows f l.row-index l.value)
