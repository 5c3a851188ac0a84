-- `kelontsira_canny` equals `canny`, its count through a lent number. Assumes nothing.
use Rattle.kelontsira.proofs.Lent.{run_told, run_refused}
use Rattle.kelontsira.proofs.run.kelontsira_canny.Goals as goal

pub returns-in-Ok : goal.returns-in-Ok
returns-in-Ok c = search (run_told, c.in-Ok.ensures)

pub returns-in-Err : goal.returns-in-Err
returns-in-Err c = search (run_refused, c.in-Err.ensures)
