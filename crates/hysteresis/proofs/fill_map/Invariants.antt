-- `fill_map` fills with the map. Assumes nothing.
use lib.ListN.{length, get_or}
use Rattle.rules.specs.Walk.{edge}
use Rattle.rules.proofs.Fill.{Filling}
use Rattle.hysteresis.proofs.fill_map.Given as goal

abbrev pub invariant-loop-q : goal.invariant-loop-q
invariant-loop-q l = Filling (length l.initial.map) l.q (λ q. edge (get_or l.marks q 0)) l.initial.map l.map
