-- `any_above` is the test of each mark: its answer so far, mark by mark. Assumes nothing.
use native.Mathlib.Omega.{arith}
use mathlib.Core.Path.{refl, sym, ap, ◌∙◌}
use lib.Dec.{ltb}
use Rattle.rules.specs.Picture.{any_below}
use Rattle.rules.proofs.Tests.{any_more}
use Rattle.refusals.proofs.Searching.{any_of_all}
use Rattle.refusals.proofs.walk.any_above.Goals as goal

pub loop-mark-init : goal.loop-mark-init
unfolding any_below
loop-mark-init c = refl

pub loop-mark-preserved : goal.loop-mark-preserved
loop-mark-preserved c = any_more _ _ _ _ c.loop-mark.invariant refl

pub returns : goal.returns
returns c = c.loop-mark.invariant ∙ ap (any_below _) (omega arith) ∙ sym (any_of_all (ltb 3) c.args.marks.now 0)
