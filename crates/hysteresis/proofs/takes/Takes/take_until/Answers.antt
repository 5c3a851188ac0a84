-- `take_until` is the definition's slice, with its count of takes. Assumes nothing.
use borrow.Author.Rules.{rules}
use native.Mathlib.Omega.{arith}
use Rattle.hysteresis.proofs.Going.{going_more, going_spent, going_ended}
use Rattle.hysteresis.proofs.takes.Takes.take_until.Goals as goal

pub returns-then-self-eq0-clause-left : goal.returns-then-self-eq0-clause-left
returns-then-self-eq0-clause-left c = (going_ended c.loop-done.invariant.0 c.if-self-eq0.true).0

pub returns-then-self-eq0-clause-made : goal.returns-then-self-eq0-clause-made
returns-then-self-eq0-clause-made c = (going_ended c.loop-done.invariant.0 c.if-self-eq0.true).1

pub loop-done-preserved : goal.loop-done-preserved
loop-done-preserved c =
    let k = c.take_one.ensures in
    let a = c.loop-done.invariant in
    (going_more a.0 c.loop-done-test.true (omega (arith, c.if-self-eq0.false)) (rw a.1.2 at k.took), search rules)

pub returns-clause-left : goal.returns-clause-left
returns-clause-left c = (going_spent c.loop-done.invariant.0 c.loop-done-test.false).0

pub returns-clause-made : goal.returns-clause-made
returns-clause-made c = (going_spent c.loop-done.invariant.0 c.loop-done-test.false).1
