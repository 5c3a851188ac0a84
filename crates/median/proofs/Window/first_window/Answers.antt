-- `first_window` meets its contract, column by column. Assumes nothing.
use borrow.Author.Rules.{rules}
use native.Mathlib.Omega.{arith}
use native.Mathlib.Nat.{zero-add}
use mathlib.Core.Path.{◌≡◌}
use lib.ListN.{length}
use Rattle.median.proofs.Windows.{counts_of, put_holds}
use Rattle.median.proofs.Window.first_window.Goals as goal

pub loop-c-init : goal.loop-c-init
loop-c-init c = c.requires

pub put_column-requires : goal.put_column-requires
put_column-requires c =
    let p = counts_of c.args.self.now.fits (omega arith) c.loop-c.invariant in
    search rules

pub loop-c-preserved : goal.loop-c-preserved
loop-c-preserved c = put_holds c.args.self.now.bytes c.loop-c.invariant (rw zero-add c.place_column-x.ensures) c.put_column.ensures.0

pub returns : goal.returns
returns c =
    let n : c.loop-c.c ≡ length c.args.self.now.rows.now = omega arith in
    rw n at c.loop-c.invariant
