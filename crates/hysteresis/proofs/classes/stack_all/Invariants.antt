-- `stack_all` meets its contract: pixel after pixel, and no more are pending than were looked at. Assumes nothing.
use mathlib.Core.Path.{◌≡◌}
use lib.ListN.{length}
use Rattle.rules.specs.Walk.{has}
use Rattle.hysteresis.specs.Split.{stacked}
use Rattle.hysteresis.proofs.classes.stack_all.Given as goal

abbrev pub invariant-loop-i : goal.invariant-loop-i
invariant-loop-i l =
    (length l.stack ≡ length l.initial.stack) × ((l.stack, l.pending) ≡ stacked (has 2 l.marks) l.i l.initial.stack)
