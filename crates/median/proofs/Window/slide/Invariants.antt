-- `slide` meets its contract: at each pixel the counts are its window's, and the value that they select is its median. Assumes nothing.
use Prim.Native.Nat.{◌+◌, ◌*◌}
use lib.ListN.{length}
use Rattle.border.proofs.Writing.{Writing}
use Rattle.median.specs.Counts.{median_of, Holds, Middle}
use Rattle.median.proofs.Window.slide.Given as goal

abbrev pub invariant-loop-x : goal.invariant-loop-x
invariant-loop-x l =
    let w = l.self in
    let a = l.y * w.size.width in
    Writing a (a + w.size.width) (a + l.x) (median_of w.size (length w.rows.now) w.border w.pixels.now) l.initial.out l.out
    × Holds w.pixels.now w.size w.border w.rows.now l.x (length w.rows.now) l.counts × Middle l.counts l.found.value l.found.below
