-- `bytes_to` meets its contract: row after row. Assumes nothing.
use mathlib.Core.Path.{refl}
use Rattle.rules.specs.Sums.{to_byte}
use Rattle.filters.specs.Blocks.{sum_at}
use Rattle.filters.proofs.Passing.{rows_none, rows_start, rows_more, rows_end}
use Rattle.filters.proofs.sums.Convolution.bytes_to.Goals as goal

pub returns-then-width-eq0 : goal.returns-then-width-eq0
returns-then-width-eq0 g c =
    let s = g.T.Sample in
    let k = c.args.self.now in
    rows_none k.size (λ x y. to_byte (sum_at s.value s.missing k.samples.now k.size k.kernel k.weights.now k.border x y)) c.args.out.now c.if-width-eq0.true

pub loop-y-init : goal.loop-y-init
loop-y-init g c =
    let s = g.T.Sample in
    let k = c.args.self.now in
    rows_start k.size (λ x y. to_byte (sum_at s.value s.missing k.samples.now k.size k.kernel k.weights.now k.border x y)) _

pub loop-y-preserved : goal.loop-y-preserved
loop-y-preserved g c =
    let s = g.T.Sample in
    let k = c.args.self.now in
    rows_more k.size (λ x y. to_byte (sum_at s.value s.missing k.samples.now k.size k.kernel k.weights.now k.border x y)) c.loop-y.invariant c.requires.0 c.loop-y-test.true (λ x. refl) c.row_to.ensures

pub returns : goal.returns
returns g c =
    let s = g.T.Sample in
    let k = c.args.self.now in
    rows_end k.size (λ x y. to_byte (sum_at s.value s.missing k.samples.now k.size k.kernel k.weights.now k.border x y)) c.loop-y.invariant c.loop-y-test.false
