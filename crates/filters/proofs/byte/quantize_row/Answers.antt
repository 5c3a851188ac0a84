-- `quantize_row` meets its contract: a filling loop. Assumes nothing.
use native.Mathlib.Omega.{arith}
use Rattle.rules.proofs.Fill.{filling_start, filling_more, filling_end}
use Rattle.filters.proofs.byte.quantize_row.Goals as goal

pub loop-i-init : goal.loop-i-init
loop-i-init c = filling_start

pub loop-i-preserved : goal.loop-i-preserved
loop-i-preserved c = filling_more (omega arith) (omega arith) c.loop-i.invariant c.quantize.ensures

pub returns : goal.returns
returns c = filling_end c.loop-i.invariant c.loop-i-test.false
