-- `fill_map` fills with the map. Assumes nothing.
use Rattle.std.proofs.lemmas.Bool.Decides.{nat_tests}
use native.Mathlib.Omega.{arith}
use Rattle.rules.proofs.Fill.{filling_start, filling_more, filling_end}
use Rattle.hysteresis.proofs.fill_map.Goals as goal

pub loop-q-init : goal.loop-q-init
loop-q-init c = filling_start

pub loop-q-preserved : goal.loop-q-preserved
loop-q-preserved c = filling_more (omega arith) (omega arith) c.loop-q.invariant (grind (arith, nat_tests))

pub returns : goal.returns
returns c = filling_end c.loop-q.invariant (omega arith)
