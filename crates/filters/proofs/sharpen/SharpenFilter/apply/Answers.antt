-- `apply` meets its contract: a convolution with the constant weights. Assumes nothing.
use mathlib.Core.Path.{◌∙◌}
use lib.Ieee.{of_bits, of_int}
use Rattle.rules.proofs.Blurs.{sharpen_is}
use Rattle.filters.proofs.sharpen.SharpenFilter.apply.Goals as goal

pub returns : goal.returns
unfolding of_bits of_int
returns c = c.apply_kernel.ensures ∙ sharpen_is _ _ _ _
