-- `block_sums` meets its contract: one term after another. Assumes nothing.
use Prim.Native.Nat.{◌+◌}
use Rattle.rules.specs.Filters.{kernel_term, kernel_sum}
use Rattle.filters.specs.Blocks.{sampled}
use native.Mathlib.Omega.{arith}
use borrow.Author.Rules.{rules}
use Rattle.filters.proofs.Terms.{cleared_whole}
use Rattle.rules.proofs.Sums.{summing_start, summing_more, summing_end}
use Rattle.filters.proofs.sums.Convolution.block_sums.Goals as goal

pub loop-j-init : goal.loop-j-init
loop-j-init g c = summing_start c.args.sums.now (omega (arith, c.fill.ensures.len)) (cleared_whole _ _ (c.fill.ensures.after (λ y e. search rules)))

pub loop-j-preserved : goal.loop-j-preserved
loop-j-preserved g c = summing_more c.loop-j-test.true c.loop-j.invariant (rw c.loop-j.invariant.same at c.add_term.ensures)

pub returns : goal.returns
unfolding kernel_sum
returns g c =
    let s = g.T.Sample in
    let k = c.args.self.now in
    let z = cleared_whole c.args.sums.now c.fill.new.self (c.fill.ensures.after (λ y e. search rules)) in
    rw (← c.args.self.now.within.count) (rw c.fill.ensures.len at (summing_end {t = λ i. kernel_term (sampled s.value s.missing k.samples.now k.size k.border) k.kernel k.weights.now (c.args.x + i) c.args.y} _ z c.loop-j.invariant c.loop-j-test.false))
