-- `weigh` meets its contract: the sum so far, which nine terms of at most 510 keep within an i16. Assumes nothing.
use Rattle.std.proofs.Common.{◌≡◌, ◌+◌, refl, zero-le, arith, w16}
use Rattle.rules.specs.Gradient.{sum_z}
use Rattle.rules.proofs.Sizes.{back, sfits}
use Rattle.pixel.specs.Components.{component}
use Rattle.pixel.proofs.Weighing.{Lent, sum_within, sum_next}
use Rattle.pixel.proofs.components.weigh.Goals as goal

pub loop-j-init : goal.loop-j-init
unfolding sum_z
loop-j-init c = (zero-le, refl)

pub overflow_add-sum : goal.overflow_add-sum
overflow_add-sum c =
    let a = c.args in
    let lent : Lent a.weights.now a.nine.now = record { small = c.requires.0; byte = λ i. omega (arith, c.type_inv.nine i) } in
    let w = sum_within lent (c.loop-j.j + 1) in
    rw (sum_next lent c.loop-j-test.true c.loop-j.invariant.1) (sfits w16 _ (omega (arith, w)))

pub loop-j-preserved : goal.loop-j-preserved
loop-j-preserved c =
    let a = c.args in
    let lent : Lent a.weights.now a.nine.now = record { small = c.requires.0; byte = λ i. omega (arith, c.type_inv.nine i) } in
    let e = sum_next lent c.loop-j-test.true c.loop-j.invariant.1 in
    let w = sum_within lent (c.loop-j.j + 1) in
    (w, rw e (back w16 _ (omega (arith, w))))

pub returns : goal.returns
unfolding component
returns c = let n : c.loop-j.j ≡ 9 = omega arith in rw n at c.loop-j.invariant.1
