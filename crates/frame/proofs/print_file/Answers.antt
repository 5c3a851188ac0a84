-- `print_file` meets its contract: a run's printout, or what `taps_of` says of it. Assumes nothing.
use Rattle.frame.proofs.Printouts.{written}
use Rattle.frame.proofs.print_file.Goals as goal

pub returns-in-Err : goal.returns-in-Err
returns-in-Err c = written _ _ _ c.put_refused.ensures c.in-Err.ensures
