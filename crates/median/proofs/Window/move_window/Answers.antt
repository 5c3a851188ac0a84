-- `move_window` meets its contract: one column out, one in, and how many stay below the value. Assumes nothing.
use native.Mathlib.Omega.{arith}
use Rattle.median.proofs.Windows.{counts_of, left_counted, less_counts, moved}
use Rattle.median.proofs.Window.move_window.Goals as goal

pub take_column-left_out-requires : goal.take_column-left_out-requires
take_column-left_out-requires c =
    let w = c.args.self.now in (
      counts_of w.fits (omega arith) c.requires.1,
      left_counted w.fits w.bytes c.requires.1 c.place_column-left.ensures c.place_column-right.ensures c.requires.2,
    )

pub put_column-requires : goal.put_column-requires
put_column-requires c =
    let w = c.args.self.now in (
      less_counts w.fits w.bytes c.requires.1 c.place_column-left.ensures c.place_column-right.ensures c.requires.2 c.take_column-left_out.ensures.0,
      omega (arith, c.take_column-left_out.ensures.2, c.requires.3),
    )

pub returns : goal.returns
returns c =
    let w = c.args.self.now in
    moved w.fits w.bytes c.requires.1 c.place_column-left.ensures c.place_column-right.ensures c.requires.2
    c.take_column-left_out.ensures.0 (c.take_column-left_out.ensures.1, c.take_column-left_out.ensures.2) c.put_column.ensures
