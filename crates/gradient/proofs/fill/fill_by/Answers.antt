-- `fill_by` meets its contract: a filling loop. Assumes nothing.
use Rattle.std.proofs.Common.{rules, arith}
use Rattle.rules.proofs.Fill.{filling_start, filling_more, filling_end}
use Rattle.gradient.proofs.fill.fill_by.Goals as goal

pub loop-i-init : goal.loop-i-init
loop-i-init g c = λ f q. filling_start

pub loop-i-preserved : goal.loop-i-preserved
loop-i-preserved g c = λ f q. filling_more (omega arith) (omega arith) (c.loop-i.invariant f q) (q _ (omega arith) _ (search rules))

pub returns : goal.returns
returns g c = λ f q. filling_end (c.loop-i.invariant f q) (omega arith)
