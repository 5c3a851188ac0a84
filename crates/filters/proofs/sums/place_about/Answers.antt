-- `place_about` meets its contract: what `place` gives of a side that is not refused. Assumes nothing.
use mathlib.Core.Path.{◌∙◌}
use Rattle.border.proofs.Reading.{placed_is}
use Rattle.filters.proofs.sums.place_about.Goals as goal

pub returns : goal.returns
returns c = c.place.ensures ∙ placed_is _ _ _ c.requires.0 c.requires.1
