-- `turn` meets its contract: a filling loop. Assumes nothing.
use Rattle.std.proofs.Common.{arith}
use Rattle.rules.proofs.Fill.{filling_start, filling_more}
use Rattle.cases.proofs.number.turn.Goals as goal

pub loop-i-init : goal.loop-i-init
loop-i-init g c = filling_start

pub loop-i-preserved : goal.loop-i-preserved
loop-i-preserved g c = filling_more (omega arith) c.loop-i-test.true c.loop-i.invariant c.from_pattern.ensures
