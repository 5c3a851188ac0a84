-- `look_at` is the definition's look. Assumes nothing.
use borrow.Author.Tests.{eq-eqb, ne_eqb}
use native.Mathlib.Omega.{arith}
use Rattle.rules.specs.Walk.{look}
use Rattle.hysteresis.proofs.Fits.{room_for, fit_marked, fit_push}
use Rattle.hysteresis.proofs.takes.Takes.look_at.Goals as goal

pub invariant_of-self : goal.invariant_of-self
invariant_of-self c = record { fits = fit_marked _ c.args.self.now.fits _ c.requires c.if-self-r-eq-MARK_WEAK.true }

-- a weak pixel finds room on the stack
pub bounds-self-self : goal.bounds-self-self
bounds-self-self c =
    let h = c.args.self.now.fits in
    omega (arith, room_for _ h _ c.requires c.if-self-r-eq-MARK_WEAK.true, h.stack_long)

pub invariant_of-self-then-self-r-eq-MARK_WEAK : goal.invariant_of-self-then-self-r-eq-MARK_WEAK
invariant_of-self-then-self-r-eq-MARK_WEAK c =
    record { fits = fit_push _ c.args.self.now.fits _ c.requires c.if-self-r-eq-MARK_WEAK.true }

pub returns-then-self-r-eq-MARK_WEAK-clause-looked : goal.returns-then-self-r-eq-MARK_WEAK-clause-looked
unfolding look
returns-then-self-r-eq-MARK_WEAK-clause-looked c = simp (eq-eqb _ _ c.if-self-r-eq-MARK_WEAK.true)

pub returns-else-self-r-eq-MARK_WEAK-clause-looked : goal.returns-else-self-r-eq-MARK_WEAK-clause-looked
unfolding look
returns-else-self-r-eq-MARK_WEAK-clause-looked c = simp (ne_eqb _ _ c.if-self-r-eq-MARK_WEAK.false)
