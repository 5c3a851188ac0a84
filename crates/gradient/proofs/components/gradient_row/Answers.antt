-- `gradient_row` meets its contract: three filling loops in turn. Assumes nothing.
use Rattle.std.proofs.Common.{arith, rules}
use Rattle.rules.proofs.Fill.{filling_start, filling_end}
use Rattle.gradient.proofs.Rows.{filling_from, both_more}
use Rattle.gradient.proofs.components.gradient_row.Goals as goal

pub loop-x-init : goal.loop-x-init
loop-x-init c = (filling_start, filling_start)

pub loop-x-preserved : goal.loop-x-preserved
loop-x-preserved c =
    let i = c.inner_columns-inner.ensures in
    both_more _ _ _ _ _ (omega (arith, i.order, i.within)) (omega (arith, i.order, i.within)) c.loop-x.invariant (search rules) (search rules) c.nine_about-nine.ensures c.gx_of.ensures c.gy_of.ensures

pub loop-x-2-init : goal.loop-x-2-init
loop-x-2-init c = (filling_from c.loop-x.invariant.0 (omega arith), filling_from c.loop-x.invariant.1 (omega arith))

pub loop-x-2-preserved : goal.loop-x-2-preserved
loop-x-2-preserved c =
    let w = c.inner_columns-inner.ensures.within in
    both_more _ _ _ _ _ (omega (arith, w)) (omega (arith, w)) c.loop-x-2.invariant (search rules) (search rules) c.nine_inside-nine.ensures
    c.gx_of-in-loop-x-2.ensures c.gy_of-in-loop-x-2.ensures

pub loop-x-3-init : goal.loop-x-3-init
loop-x-3-init c =
    let o = c.inner_columns-inner.ensures.order in
    (filling_from c.loop-x-2.invariant.0 (omega (arith, o)), filling_from c.loop-x-2.invariant.1 (omega (arith, o)))

pub loop-x-3-preserved : goal.loop-x-3-preserved
loop-x-3-preserved c =
    both_more _ _ _ _ _ (omega arith) (omega arith) c.loop-x-3.invariant (search rules) (search rules) c.nine_about-nine-in-loop-x-3.ensures
    c.gx_of-in-loop-x-3.ensures c.gy_of-in-loop-x-3.ensures

pub returns : goal.returns
returns c = (filling_end c.loop-x-3.invariant.0 (omega arith), filling_end c.loop-x-3.invariant.1 (omega arith))
