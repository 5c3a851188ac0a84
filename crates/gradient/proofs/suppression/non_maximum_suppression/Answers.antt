-- `non_maximum_suppression` meets its contract: refused, or the loop. Assumes nothing.
use Rattle.std.proofs.Common.{rules, refl}
use Rattle.rules.specs.Calls.{non_maximum_suppression}
use Rattle.rules.proofs.Answers.{accepted_is}
use Rattle.gradient.proofs.Answers.{refused}
use Rattle.gradient.proofs.suppression.non_maximum_suppression.Goals as goal

pub returns-in_err-of_suppression : goal.returns-in_err-of_suppression
unfolding non_maximum_suppression
returns-in_err-of_suppression c = refused c.in_err-of_suppression.field-0.0 _ _ _ (search rules) c.in_err-of_suppression.ensures

pub returns : goal.returns
unfolding non_maximum_suppression
returns c = accepted_is _ _ c.in_ok-of_suppression.ensures _ _ _ refl c.suppress.ensures
