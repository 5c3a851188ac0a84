-- `gaussian_blur` meets its contract: a separable call with the same taps both ways. Assumes nothing.
use mathlib.Core.Path.{◌∙◌}
use Rattle.rules.proofs.Blurs.{blur_is}
use Rattle.filters.proofs.gaussian.gaussian_blur.Goals as goal

pub returns : goal.returns
returns c = c.apply_separable_kernel.ensures ∙ blur_is _ _ _ _ _ _
