-- `half_by` meets its contract: the table has the end before the upper half. Assumes nothing.
use Rattle.std.proofs.Common.{◌+◌, ◌-◌, arith}
use Rattle.pixel.proofs.Halving.{upper, lower}
use Rattle.pixel.proofs.byte.EndTable.half_by.Goals as goal

pub returns-then-self-m : goal.returns-then-self-m
returns-then-self-m c =
    let a = c.args in
    upper c.requires (omega (arith, a.self.now.holds.each (a.n + a.b - 1) (omega arith), c.if-self-m.true))

pub returns : goal.returns
returns c =
    let a = c.args in
    lower c.requires (omega (arith, a.self.now.holds.each (a.n + a.b - 1) (omega arith), c.if-self-m.false))
