-- `place_rows` meets its contract: a filling loop. Assumes nothing.
use native.Mathlib.Omega.{arith}
use Rattle.rules.proofs.Fill.{filling_start, filling_more, filling_end}
use Rattle.median.proofs.place_rows.Goals as goal

pub loop-j-init : goal.loop-j-init
loop-j-init c = filling_start

pub loop-j-preserved : goal.loop-j-preserved
loop-j-preserved c = filling_more (omega arith) (omega arith) c.loop-j.invariant c.place.ensures

pub returns : goal.returns
returns c = filling_end c.loop-j.invariant c.loop-j-test.false
