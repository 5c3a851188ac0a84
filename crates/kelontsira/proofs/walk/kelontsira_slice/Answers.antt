-- `kelontsira_slice` equals `slice`, its state and takes through lent numbers. Assumes nothing.
use Rattle.kelontsira.proofs.Lent.{slice_told, slice_refused}
use Rattle.kelontsira.proofs.walk.kelontsira_slice.Goals as goal

pub returns-in-Ok : goal.returns-in-Ok
returns-in-Ok c = search (slice_told, c.in-Ok.ensures)

pub returns-in-Err : goal.returns-in-Err
returns-in-Err c = search (slice_refused, c.in-Err.ensures)
