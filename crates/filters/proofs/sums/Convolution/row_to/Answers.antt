-- `row_to` meets its contract: block after block, summed and turned to bytes. Assumes nothing.
use native.Mathlib.Omega.{arith}
use Rattle.rules.specs.Sums.{to_byte}
use Rattle.filters.specs.Blocks.{sum_at}
use Rattle.filters.proofs.Passing.{blocks_start, block_in, blocks_more}
use Rattle.filters.proofs.sums.Convolution.row_to.Goals as goal

pub loop-k-init : goal.loop-k-init
loop-k-init g c =
    let s = g.T.Sample in
    let k = c.args.self.now in
    blocks_start k.size.width (λ x. to_byte (sum_at s.value s.missing k.samples.now k.size k.kernel k.weights.now k.border x c.args.y)) _

pub loop-k-preserved : goal.loop-k-preserved
loop-k-preserved g c =
    let s = g.T.Sample in
    let k = c.args.self.now in
    blocks_more c.loop-k.k (λ x. sum_at s.value s.missing k.samples.now k.size k.kernel k.weights.now k.border x c.args.y) c.loop-k.sums (omega arith)
    (block_in c.div_ceil-k-end.ensures c.loop-k-test.true) c.min-n.ensures (omega (arith, c.requires.1, c.loop-k.auto.sums)) c.loop-k.invariant c.block_sums.ensures c.quantize_row.ensures
