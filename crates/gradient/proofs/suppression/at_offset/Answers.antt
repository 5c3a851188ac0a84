-- `at_offset` meets its contract: the innermost of three choices first. Assumes nothing.
use Rattle.gradient.specs.Beside.{at_offset}
use Rattle.gradient.proofs.suppression.at_offset.Goals as goal

pub returns : goal.returns
unfolding at_offset
returns c = rw (c.pick-2.ensures, c.pick-across.ensures, c.pick.ensures)
