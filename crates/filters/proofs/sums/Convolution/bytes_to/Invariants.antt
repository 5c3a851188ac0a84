-- `bytes_to` meets its contract: row after row. Assumes nothing.
use Prim.Native.Nat.{◌*◌}
use Rattle.rules.specs.Picture.{area, by_pixel}
use Rattle.rules.specs.Sums.{to_byte}
use Rattle.rules.proofs.Fill.{Filling}
use Rattle.filters.specs.Blocks.{sum_at}
use Rattle.filters.proofs.sums.Convolution.bytes_to.Given as goal

abbrev pub invariant-loop-y : goal.invariant-loop-y
invariant-loop-y g l =
    let s = g.T.Sample in
    let c = l.fn.self in
    Filling (area c.size) (l.y * c.size.width) (by_pixel c.size (λ x y. to_byte (sum_at s.value s.missing c.samples.now c.size c.kernel c.weights.now c.border x y))) l.initial.out l.out
