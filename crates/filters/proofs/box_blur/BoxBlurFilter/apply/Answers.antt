-- `apply` meets its contract: a blur with the constant taps. Assumes nothing.
use mathlib.Core.Path.{◌∙◌}
use Rattle.rules.proofs.Blurs.{box_is}
use Rattle.filters.proofs.box_blur.BoxBlurFilter.apply.Goals as goal

pub returns : goal.returns
returns c = c.gaussian_blur.ensures ∙ box_is _ _ _ _ _
