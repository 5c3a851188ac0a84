-- `Three::fill_by_nines` meets its contract: three filling loops in turn. Assumes nothing.
use Rattle.std.proofs.Common.{◌∙◌, ap, arith}
use Rattle.rules.proofs.Fill.{filling_start, filling_more, filling_end}
use Rattle.gradient.proofs.Rows.{filling_from}
use Rattle.gradient.proofs.window.Three.fill_by_nines.Goals as goal

pub loop-k-init : goal.loop-k-init
loop-k-init g c = λ f m. filling_start

pub loop-k-preserved : goal.loop-k-preserved
loop-k-preserved g c = λ f m.
    filling_more (omega arith) (omega (arith, c.inner_columns-inner.ensures.order, c.inner_columns-inner.ensures.within)) (c.loop-k.invariant f m)
    (m _ _ c.made.ensures ∙ ap f c.nine_about.ensures)

pub loop-k-2-init : goal.loop-k-2-init
loop-k-2-init g c = λ f m. filling_from (c.loop-k.invariant f m) (omega arith)

pub loop-k-2-preserved : goal.loop-k-2-preserved
loop-k-2-preserved g c = λ f m.
    filling_more (omega arith) (omega (arith, c.inner_columns-inner.ensures.within)) (c.loop-k-2.invariant f m)
    (m _ _ c.made-in-loop-k-2.ensures ∙ ap f c.nine_inside.ensures)

pub loop-k-3-init : goal.loop-k-3-init
loop-k-3-init g c = λ f m. filling_from (c.loop-k-2.invariant f m) (omega (arith, c.inner_columns-inner.ensures.order))

pub loop-k-3-preserved : goal.loop-k-3-preserved
loop-k-3-preserved g c = λ f m.
    filling_more (omega arith) (omega arith) (c.loop-k-3.invariant f m) (m _ _ c.made-in-loop-k-3.ensures ∙ ap f c.nine_about-in-loop-k-3.ensures)

pub returns : goal.returns
returns g c = λ f m. filling_end (c.loop-k-3.invariant f m) (omega arith)
