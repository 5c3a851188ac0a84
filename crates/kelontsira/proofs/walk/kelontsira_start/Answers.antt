-- `kelontsira_start` equals `start`, its state through lent numbers. Assumes nothing.
use Rattle.kelontsira.proofs.Lent.{start_told, start_refused}
use Rattle.kelontsira.proofs.walk.kelontsira_start.Goals as goal

pub returns-in-Ok : goal.returns-in-Ok
returns-in-Ok c = search (start_told, c.in-Ok.ensures)

pub returns-in-Err : goal.returns-in-Err
returns-in-Err c = search (start_refused, c.in-Err.ensures)
