-- `row_to` meets its contract: block after block, summed and turned to bytes. Assumes nothing.
use Prim.Native.Nat.{◌*◌, min}
use Rattle.rules.specs.Sums.{to_byte}
use Rattle.rules.proofs.Fill.{Filling}
use Rattle.filters.specs.Blocks.{sum_at}
use Rattle.filters.proofs.sums.Convolution.row_to.Given as goal

abbrev pub invariant-loop-k : goal.invariant-loop-k
invariant-loop-k g l =
    let s = g.T.Sample in
    let c = l.fn.self in
    Filling c.size.width (min (l.k * 108) c.size.width) (λ x. to_byte (sum_at s.value s.missing c.samples.now c.size c.kernel c.weights.now c.border x l.fn.y)) l.initial.row l.row
