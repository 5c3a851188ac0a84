-- `four_of` meets its contract: at each of its eight numbers, which the checker computes. Assumes nothing.
use Rattle.std.proofs.Common.{◌+◌, ◌*◌, ◌%◌, ◌^◌, eqb}
use lib.Dec.{eqb→eq}
use Rattle.rules.proofs.Computed.{at}
use Rattle.pixel.proofs.root.four_of.Goals as goal

pub returns : goal.returns
returns c = eqb→eq _ _ (at (λ i. eqb ((1 * 2 ^ (2 * i + 32)) % 18446744073709551616) (4 ^ (i + 16))) 8 tt c.args.i c.requires)
