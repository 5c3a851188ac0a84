-- `print` meets its contract: the arrays are as long as the rules' rooms. Assumes nothing.
use Rattle.std.proofs.Common.{arith}
use Rattle.frame.proofs.print.Goals as goal

pub print_first-requires : goal.print_first-requires
print_first-requires c = omega arith

pub returns : goal.returns
returns c = (omega arith, omega arith, c.print_first.ensures)
