-- `add_row` meets its contract: three parts, before the row, in it and after it. Assumes nothing.
use borrow.Author.Rules.{rules}
use Prim.Native.Nat.{◌+◌, ◌-◌, ◌/◌}
use lib.ListN.{take, drop}
use Rattle.filters.specs.Blocks.{samples_of, row_at}
use Rattle.filters.proofs.Taps.{three_parts}
use Rattle.filters.proofs.sums.Convolution.add_row.Goals as goal

pub returns : goal.returns
returns g c =
    let s = g.T.Sample in
    let k = c.inner_part-lo.result in
    let v = λ (a : _). row_at s.value s.missing c.args.row.now c.args.self.now.border a (c.args.self.now.kernel.width / 2) in
    three_parts s.value s.missing c.args.row.now _ _ _ c.args.sums.now _ c.inner_part-lo.ensures {p = c.add_each.new.sums} {q = c.add_each-2.new.sums} {r = c.add_each-3.new.sums}
    (c.add_each.ensures (λ i. v (c.args.at + i)) (λ i e h p. search rules))
    (c.add_each-2.ensures (samples_of s.value s.missing (take (k.s + (k.hi - k.lo) - k.s) (drop k.s c.args.row.now))) (λ i e h p. search rules))
    (c.add_each-3.ensures (λ i. v (c.args.at + k.hi + i)) (λ i e h p. search rules))
