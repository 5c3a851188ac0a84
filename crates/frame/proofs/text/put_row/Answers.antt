-- `put_row` meets its contract: the row's characters fill the front, and the newline comes last. Assumes nothing.
use borrow.Author.Tests.{lt-ltb, le-ltb}
use Rattle.std.proofs.Common.{◌≡◌, length, arith}
use Rattle.rules.specs.Frame.{newline}
use Rattle.rules.proofs.Fill.{filling_start, filling_more, filling_end}
use Rattle.frame.proofs.text.put_row.Goals as goal

pub loop-x-init : goal.loop-x-init
loop-x-init c = filling_start

pub loop-x-preserved : goal.loop-x-preserved
loop-x-preserved c =
    filling_more (omega arith) (omega arith) c.loop-x.invariant (rw (lt-ltb _ _ c.loop-x-test.true) c.character.ensures)

pub returns : goal.returns
returns c =
    let n : c.loop-x.x ≡ length c.args.row.now = omega arith in
    filling_end (filling_more {v = newline} (omega arith) (omega arith) (rw n at c.loop-x.invariant) (rw (le-ltb (length c.args.row.now) (length c.args.row.now) (omega arith)))) (omega arith)
