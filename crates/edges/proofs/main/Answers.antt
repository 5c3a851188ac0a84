-- `main` is safe: what the library returns counts bytes of the text. Assumes nothing.
use Rattle.frame.proofs.Suffices.{counts}
use Rattle.edges.proofs.main.Goals as goal

pub slice_bounds-text-end : goal.slice_bounds-text-end
slice_bounds-text-end c = (counts _ _ _ c.print-written.ensures.2).0

pub slice_bounds-write_all-end : goal.slice_bounds-write_all-end
slice_bounds-write_all-end c = (counts _ _ _ c.print-written.ensures.2).1
