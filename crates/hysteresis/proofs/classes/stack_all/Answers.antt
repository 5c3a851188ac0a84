-- `stack_all` meets its contract: pixel after pixel, and no more are pending than were looked at. Assumes nothing.
use borrow.Author.Rules.{rules}
use native.Mathlib.Omega.{arith}
use native.Mathlib.Numerals.{add-one}
use mathlib.Core.Path.{ap, ◌∙◌}
use Rattle.hysteresis.specs.Split.{put, stacked}
use Rattle.hysteresis.proofs.Classing.{few_stacked}
use Rattle.hysteresis.proofs.classes.stack_all.Goals as goal

pub loop-i-init : goal.loop-i-init
unfolding stacked
loop-i-init c = search rules

pub stack_one-pending-requires : goal.stack_one-pending-requires
stack_one-pending-requires c = (search rules, omega (arith, few_stacked _ _ _ c.loop-i.invariant.1))

pub loop-i-preserved : goal.loop-i-preserved
unfolding stacked
loop-i-preserved c =
    (search rules, rw add-one (c.stack_one-pending.ensures ∙ ap (put _ c.loop-i.i) c.loop-i.invariant.1))
