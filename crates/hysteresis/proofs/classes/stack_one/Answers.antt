-- `stack_one` meets its contract, test by test. Assumes nothing.
use borrow.Author.Tests.{eq-eqb, ne_eqb}
use Rattle.hysteresis.specs.Split.{put}
use Rattle.hysteresis.proofs.classes.stack_one.Goals as goal

pub returns-then-mark-eq-MARK_PENDING : goal.returns-then-mark-eq-MARK_PENDING
unfolding put
returns-then-mark-eq-MARK_PENDING c = rw (eq-eqb _ _ c.if-mark-eq-MARK_PENDING.true)

pub returns : goal.returns
unfolding put
returns c = rw (ne_eqb _ _ c.if-mark-eq-MARK_PENDING.false)
