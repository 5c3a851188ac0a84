-- `byte_row` meets its contract, block by block. Assumes nothing.
use Rattle.std.proofs.Common.{refl, arith}
use Rattle.rules.proofs.Fill.{filling_start, filling_end}
use Rattle.gradient.proofs.Rows.{filling_block, filling_from}
use Rattle.gradient.proofs.sobel.byte_row.Goals as goal

pub loop-at-init : goal.loop-at-init
loop-at-init c = filling_start

pub loop-at-preserved : goal.loop-at-preserved
loop-at-preserved c =
    filling_from (filling_block _ _ c.loop-at.invariant (omega (arith, c.min-end.ensures)) (omega (arith, c.min-end.ensures)) (omega arith) c.byte_block.ensures (λ i h. refl))
    (omega (arith, c.min-end.ensures))

pub returns : goal.returns
returns c = filling_end c.loop-at.invariant c.loop-at-test.false

pub returns-2 : goal.returns-2
returns-2 c =
    filling_end (filling_block _ _ c.loop-at.invariant (omega (arith, c.min-end.ensures)) (omega (arith, c.min-end.ensures)) (omega arith) c.byte_block.ensures (λ i h. refl))
    (omega (arith, c.min-end.ensures))
