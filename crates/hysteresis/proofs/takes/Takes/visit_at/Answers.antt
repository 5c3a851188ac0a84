-- `visit_at` is the definition's visit. Assumes nothing.
use native.Mathlib.Omega.{arith}
use mathlib.Core.Path.{sym, ◌∙◌}
use Rattle.hysteresis.proofs.Places.{Within, place_in_lem}
use Rattle.hysteresis.proofs.Visits.{visit_in, visit_out}
use Rattle.hysteresis.proofs.takes.Takes.visit_at.Goals as goal

-- past the four tests the place is in the picture
pub look_at-requires : goal.look_at-requires
look_at-requires c = let w : Within c.args.self.now.size c.args.nx c.args.ny = omega arith in place_in_lem w

pub returns-then-ny-height-clause-visited : goal.returns-then-ny-height-clause-visited
returns-then-ny-height-clause-visited c =
    let w : Within c.args.self.now.size c.args.nx c.args.ny = omega arith in c.look_at.ensures.looked ∙ sym (visit_in _ w)

pub returns-else-nx-ge1-clause-visited : goal.returns-else-nx-ge1-clause-visited
returns-else-nx-ge1-clause-visited c = sym (visit_out _ _ _ _ (λ w. omega (arith, c.else-nx-ge1.either)))
