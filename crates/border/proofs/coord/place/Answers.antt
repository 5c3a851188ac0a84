-- `place` meets its contract, case by case of what `resolve_coord` says. Assumes nothing.
use mathlib.Core.Logic.{⊎_elim}
use Rattle.border.proofs.Reading.{place_case}
use Rattle.border.proofs.coord.place.Goals as goal

pub returns-in-At : goal.returns-in-At
returns-in-At c = place_case _ _ c.ranges.at c.ranges.half c.resolve_coord.ensures c.in-At.is

-- nowhere, or refused
pub returns-in-Nothing : goal.returns-in-Nothing
returns-in-Nothing c =
    ⊎_elim (place_case _ _ c.ranges.at c.ranges.half c.resolve_coord.ensures) (place_case _ _ c.ranges.at c.ranges.half c.resolve_coord.ensures) c.in-Nothing.is
