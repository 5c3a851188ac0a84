-- `printed` is safe: what the library returns counts bytes of the text. Assumes nothing.
use Rattle.std.proofs.Common.{rules}
use Rattle.frame.proofs.Suffices.{counts}
use Rattle.frame_run.proofs.building.printed.Goals as goal

pub shared_ref_as_front-result : goal.shared_ref_as_front-result
shared_ref_as_front-result c =
    let counted = counts _ _ _ c.print-m.ensures.2 in
    search rules
