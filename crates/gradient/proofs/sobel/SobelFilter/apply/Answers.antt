-- `SobelFilter::apply` meets its contract: refused, or every row. Assumes nothing.
use Rattle.std.proofs.Common.{rules, refl}
use Rattle.rules.specs.Calls.{sobel}
use Rattle.rules.proofs.Answers.{accepted_is}
use Rattle.gradient.proofs.Answers.{refused}
use Rattle.gradient.proofs.sobel.SobelFilter.apply.Goals as goal

pub returns-in_err-of_plain : goal.returns-in_err-of_plain
unfolding sobel
returns-in_err-of_plain c = refused c.in_err-of_plain.field-0.0 _ _ _ (search rules) c.in_err-of_plain.ensures

pub returns : goal.returns
unfolding sobel
returns c = accepted_is _ _ c.in_ok-of_plain.ensures _ _ _ refl c.byte_rows.ensures
