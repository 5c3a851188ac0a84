-- `thresholds_of` meets its contract. Assumes nothing.
use Rattle.frame.proofs.layout.thresholds_of.Goals as goal

pub returns : goal.returns
returns c = rw (c.float.ensures, c.word.ensures, c.float-2.ensures, c.word-2.ensures)
