-- `sobel_gradients` meets its contract: refused, or every row. Assumes nothing.
use Rattle.std.proofs.Common.{rules, refl, ap₂}
use Rattle.rules.specs.Calls.{sobel_gradients}
use Rattle.rules.proofs.Answers.{accepted_is}
use Rattle.gradient.proofs.Answers.{refused}
use Rattle.gradient.proofs.components.sobel_gradients.Goals as goal

pub returns-in_err-of_gradients : goal.returns-in_err-of_gradients
unfolding sobel_gradients
returns-in_err-of_gradients c = refused c.in_err-of_gradients.field-0.0 _ _ _ (search rules) c.in_err-of_gradients.ensures

pub returns : goal.returns
unfolding sobel_gradients
returns c = accepted_is _ _ c.in_ok-of_gradients.ensures _ _ _ refl (ap₂ (λ x y. (x, y)) c.gradient_rows.ensures.0 c.gradient_rows.ensures.1)
