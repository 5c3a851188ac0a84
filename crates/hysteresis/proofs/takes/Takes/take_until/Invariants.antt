-- `take_until` is the definition's slice, with its count of takes. Assumes nothing.
use Rattle.hysteresis.specs.Taking.{held, Same}
use Rattle.hysteresis.proofs.Going.{Going}
use Rattle.hysteresis.proofs.takes.Takes.take_until.Given as goal

abbrev pub invariant-loop-done : goal.invariant-loop-done
invariant-loop-done l =
    Going l.initial.self.size l.budget (held l.initial.self) l.done (held l.self) × Same l.initial.self l.self
