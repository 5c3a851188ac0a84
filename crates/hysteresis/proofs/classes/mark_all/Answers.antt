-- `mark_all` meets its contract: a filling loop. Assumes nothing.
use native.Mathlib.Omega.{arith}
use Rattle.rules.proofs.Fill.{filling_start, filling_more, filling_end}
use Rattle.hysteresis.proofs.classes.mark_all.Goals as goal

pub loop-i-init : goal.loop-i-init
loop-i-init c = filling_start

pub loop-i-preserved : goal.loop-i-preserved
loop-i-preserved c = filling_more (omega arith) (omega arith) c.loop-i.invariant c.mark_of.ensures

pub returns : goal.returns
returns c = filling_end c.loop-i.invariant (omega arith)
