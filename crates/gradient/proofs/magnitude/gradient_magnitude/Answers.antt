-- `gradient_magnitude` meets its contract: refused, or every magnitude. Assumes nothing.
use Rattle.std.proofs.Common.{rules, refl}
use Rattle.rules.specs.Calls.{gradient_magnitude}
use Rattle.rules.proofs.Answers.{accepted_is}
use Rattle.rules.specs.Picture.{area}
use Rattle.gradient.proofs.Answers.{refused, magnitude_fit}
use Rattle.gradient.proofs.Bytes.{first_filled}
use Rattle.gradient.proofs.magnitude.gradient_magnitude.Goals as goal

pub returns-in_err-of_magnitude : goal.returns-in_err-of_magnitude
unfolding gradient_magnitude
returns-in_err-of_magnitude c = refused c.in_err-of_magnitude.field-0.0 _ _ _ (search rules) c.in_err-of_magnitude.ensures

pub returns : goal.returns
unfolding gradient_magnitude
returns c =
    let a = c.args in
    let p = magnitude_fit {d = a.size} {gx = a.gx.now} {gy = a.gy.now} {m = a.magnitude.now} c.in_ok-of_magnitude.ensures refl in
    accepted_is _ _ c.in_ok-of_magnitude.ensures _ _ _ refl (first_filled (area a.size) _ a.magnitude.now p.room c.magnitudes.ensures)
