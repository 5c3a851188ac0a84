-- `block_sums` meets its contract: one term after another. Assumes nothing.
use Prim.Native.Nat.{◌+◌}
use lib.ListN.{length}
use Rattle.rules.specs.Filters.{kernel_term}
use Rattle.rules.proofs.Sums.{Summing}
use Rattle.filters.specs.Blocks.{sampled}
use Rattle.filters.proofs.sums.Convolution.block_sums.Given as goal

abbrev pub invariant-loop-j : goal.invariant-loop-j
invariant-loop-j g l =
    let s = g.T.Sample in
    let c = l.self in
    Summing (length l.initial.sums) (length c.weights.now) l.j (λ i. kernel_term (sampled s.value s.missing c.samples.now c.size c.border) c.kernel c.weights.now (l.x + i) l.y) l.initial.sums l.sums
