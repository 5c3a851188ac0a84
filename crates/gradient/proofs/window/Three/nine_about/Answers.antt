-- `Three::nine_about` meets its contract: by the places of the columns beside. Assumes nothing.
use Rattle.std.proofs.Common.{◌∙◌, add-zero}
use Rattle.gradient.specs.Nine.{nine_in}
use Rattle.gradient.proofs.window.Three.nine_about.Goals as goal

pub returns : goal.returns
unfolding nine_in
returns c = c.nine_at.ensures ∙ rw (← c.self.view_is, c.place-right.ensures, c.place-left.ensures, add-zero)
