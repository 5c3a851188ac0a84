-- `kelontsira_sector` equals `sector`. Assumes nothing.
use mir.Syntax.{w16}
use mir.ValLaws.{to_z-of_z}
use Rattle.kelontsira.proofs.gradients.kelontsira_sector.Goals as goal

pub returns : goal.returns
returns c = rw (to_z-of_z w16 c.args.gx c.ranges.gx, to_z-of_z w16 c.args.gy c.ranges.gy) at c.sector.ensures
