-- `lines::list` is safe: its buffer has a size. Assumes nothing.
use Rattle.std.proofs.Common.{arith}
use Rattle.cases.proofs.lines.list.Goals as goal

pub whole_as_slice-list : goal.whole_as_slice-list
whole_as_slice-list g c = omega (arith, g.met.T.Number.small)
