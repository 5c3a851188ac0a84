-- `suppress` meets its contract: a narrow picture has no inner pixel. Assumes nothing.
use Rattle.std.proofs.Common.{◌/◌, ◌%◌, ⊎_elim, arith, ltb, ltb-true}
use Rattle.rules.specs.Picture.{area}
use Rattle.rules.proofs.Bools.{either}
use Rattle.gradient.proofs.Neighbours.{outer_are}
use Rattle.gradient.proofs.suppression.suppress.Goals as goal

pub returns-then-size : goal.returns-then-size
returns-then-size c =
    let d = c.args.size in
    outer_are d _ _ _ (λ i. i % d.width) (λ i. i / d.width) (area d) _ _ (omega arith)
    (λ i h p. ⊎_elim (λ e. omega (arith, ltb-true)) (λ e. omega (arith, ltb-true)) (either (ltb d.width 3) (ltb d.height 3) c.if-size.true))
    c.clear.ensures
