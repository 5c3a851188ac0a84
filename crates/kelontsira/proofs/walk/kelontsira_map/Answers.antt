-- `kelontsira_map` equals `map`. Assumes nothing.
use Rattle.kelontsira.proofs.Lent.{map_told}
use Rattle.kelontsira.proofs.walk.kelontsira_map.Goals as goal

pub returns : goal.returns
returns c = search map_told
