-- `mark_all` meets its contract: a filling loop. Assumes nothing.
use lib.ListN.{length}
use Rattle.rules.specs.Walk.{at_least}
use Rattle.rules.proofs.Fill.{Filling}
use Rattle.hysteresis.specs.Split.{mark_of}
use Rattle.hysteresis.proofs.classes.mark_all.Given as goal

abbrev pub invariant-loop-i : goal.invariant-loop-i
invariant-loop-i l =
    Filling (length l.initial.marks) l.i (λ k. mark_of (at_least l.thresholds.high l.magnitudes k) (at_least l.thresholds.low l.magnitudes k)) l.initial.marks l.marks
