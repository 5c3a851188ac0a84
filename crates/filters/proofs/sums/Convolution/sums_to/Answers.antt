-- `sums_to` meets its contract: row after row. Assumes nothing.
use Prim.Native.Nat.{◌+◌}
use native.Mathlib.Nat.{zero-add}
use Rattle.filters.specs.Blocks.{sum_at}
use Rattle.filters.proofs.Passing.{rows_none, rows_start, rows_lent, rows_end}
use Rattle.filters.proofs.sums.Convolution.sums_to.Goals as goal

pub returns-then-width-eq0 : goal.returns-then-width-eq0
returns-then-width-eq0 g c =
    let s = g.T.Sample in
    let k = c.args.self.now in
    rows_none k.size (sum_at s.value s.missing k.samples.now k.size k.kernel k.weights.now k.border) c.args.work.now c.if-width-eq0.true

pub loop-y-init : goal.loop-y-init
loop-y-init g c =
    let s = g.T.Sample in
    let k = c.args.self.now in
    rows_start k.size (sum_at s.value s.missing k.samples.now k.size k.kernel k.weights.now k.border) _

pub loop-y-preserved : goal.loop-y-preserved
loop-y-preserved g c =
    let s = g.T.Sample in
    let k = c.args.self.now in
    let f = sum_at s.value s.missing k.samples.now k.size k.kernel k.weights.now k.border in
    rows_lent k.size f c.loop-y.invariant {g = λ x. f (0 + x) c.loop-y.y} c.requires c.loop-y-test.true (λ x. rw zero-add) c.block_sums.ensures

pub returns : goal.returns
returns g c =
    let s = g.T.Sample in
    let k = c.args.self.now in
    rows_end k.size (sum_at s.value s.missing k.samples.now k.size k.kernel k.weights.now k.border) c.loop-y.invariant c.loop-y-test.false
