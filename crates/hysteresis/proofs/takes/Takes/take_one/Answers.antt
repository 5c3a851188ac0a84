-- `take_one` is the definition's take. Assumes nothing.
use Rattle.rules.specs.Walk.{pop, taken}
use Rattle.hysteresis.proofs.Visits.{nine_looks}
use Rattle.hysteresis.proofs.Fits.{fit_pop}
use Rattle.hysteresis.proofs.takes.Takes.take_one.Goals as goal

pub invariant_of-self-3 : goal.invariant_of-self-3
unfolding pop
invariant_of-self-3 c = record { fits = fit_pop c.args.self.now.fits c.requires }

pub returns-clause-took : goal.returns-clause-took
unfolding taken pop
returns-clause-took c =
    let a = c.visit_row.ensures in
    let b = c.visit_row-2.ensures in
    rw (c.visit_row-3.ensures.visited, b.same.2, b.visited, a.same.2, a.visited) (nine_looks _ _ _)
