-- `size_of` meets its contract. Assumes nothing.
use Rattle.frame.proofs.layout.size_of.Goals as goal

pub returns : goal.returns
returns c = rw (c.wide.ensures.0, c.wide-2.ensures.0)
