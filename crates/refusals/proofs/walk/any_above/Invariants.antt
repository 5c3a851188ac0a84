-- `any_above` is the test of each mark: its answer so far, mark by mark. Assumes nothing.
use mathlib.Core.Path.{◌≡◌}
use lib.Dec.{ltb}
use lib.ListN.{get_or}
use Rattle.rules.specs.Picture.{any_below}
use Rattle.refusals.proofs.walk.any_above.Given as goal

abbrev pub invariant-loop-mark : goal.invariant-loop-mark
invariant-loop-mark l = l.above ≡ any_below (λ q. ltb 3 (get_or l.marks q 0)) l.mark-index
