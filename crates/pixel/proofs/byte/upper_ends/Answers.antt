-- `upper_ends` meets its contract: the code's table is the rule's own list, which the checker computes, so entry n is n² + n. Assumes nothing.
use Rattle.std.proofs.Common.{refl}
use Rattle.rules.specs.Picture.{tabulate}
use Rattle.pixel.specs.Halving.{upper_ends}
use Rattle.pixel.proofs.byte.upper_ends.Goals as goal

pub returns : goal.returns
unfolding upper_ends tabulate
returns c = refl
