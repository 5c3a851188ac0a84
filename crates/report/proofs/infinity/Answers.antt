-- `infinity` meets its contract: one division, computed. Assumes nothing.
use Rattle.std.proofs.Common.{refl}
use Rattle.std.specs.Float.Ieee.{div, of_bits, of_fields}
use Rattle.report.proofs.infinity.Goals as goal

pub returns : goal.returns
unfolding div of_bits of_fields
returns c = refl
