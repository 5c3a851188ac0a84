-- `print_first` meets its contract: the whole file, or its first bytes. Assumes nothing.
use Rattle.std.proofs.Common.{◌≡◌, ◌-◌, arith}
use lib.Seq.{take_all}
use Rattle.rules.specs.Frame.{printed}
use Rattle.frame.proofs.print_first.Goals as goal

pub returns-then-file-read : goal.returns-then-file-read
unfolding printed
returns-then-file-read c = rw (take_all c.args.read c.args.file.now (omega (arith, c.if-file-read.true))) c.print_file.ensures

pub returns : goal.returns
unfolding printed
returns c =
    let e : c.args.read - 0 ≡ c.args.read = omega arith in
    rw e at c.print_file-2.ensures
