-- `canny` meets its contract: refused by the table, or the stages, the walk, the clearing and the count, composed. Assumes nothing.
use borrow.Author.Rules.{rules}
use native.Mathlib.Omega.{arith}
use mathlib.Core.Path.{sym}
use Rattle.rules.specs.Refusals.{Scratch, scratch}
use Rattle.rules.specs.Run.{Roomy}
use Rattle.canny.proofs.Running.{refused, made, granted, roomed, walkable, ran}
use Rattle.canny.proofs.canny.Goals as goal

pub returns-in_err-of_run : goal.returns-in_err-of_run
returns-in_err-of_run c =
    let a = c.args in
    let lent : Scratch = scratch a.work.now a.magnitude.now a.gx.now a.gy.now a.blurred.now a.marks.now a.stack.now in
    refused a.size a.pixels.now a.taps.now a.thresholds lent a.map.now c.in_err-of_run.field-0.0 (search rules) c.in_err-of_run.ensures

-- what acceptance grants
pub suppress-requires : goal.suppress-requires
suppress-requires c =
    let a = c.args in
    let lent : Scratch = scratch a.work.now a.magnitude.now a.gx.now a.gy.now a.blurred.now a.marks.now a.stack.now in
    granted a.size a.pixels.now a.taps.now a.thresholds lent a.map.now (sym c.in_ok-of_run.ensures)

pub walk-requires : goal.walk-requires
walk-requires c =
    let a = c.args in
    let lent : Scratch = scratch a.work.now a.magnitude.now a.gx.now a.gy.now a.blurred.now a.marks.now a.stack.now in
    walkable a.size a.pixels.now a.taps.now a.thresholds lent a.map.now (sym c.in_ok-of_run.ensures) c.suppress.ensures

pub returns : goal.returns
returns c =
    let a = c.args in
    let lent : Scratch = scratch a.work.now a.magnitude.now a.gx.now a.gy.now a.blurred.now a.marks.now a.stack.now in
    let h : Roomy a.size lent a.map.now = roomed a.size a.pixels.now a.taps.now a.thresholds lent a.map.now (sym c.in_ok-of_run.ensures) in
    made a.size a.pixels.now a.taps.now a.thresholds lent a.map.now c.in_ok-of_run.ensures
    (ran a.size a.pixels.now a.taps.now a.thresholds lent a.map.now (sym c.in_ok-of_run.ensures) c.suppress.ensures c.walk.ensures
    (record {
      work = omega (arith, h.work);
      magnitude = omega (arith, h.magnitude);
      gx = omega (arith, h.gx);
      gy = omega (arith, h.gy);
      blurred = omega (arith, h.blurred);
      marks = omega (arith, h.marks);
      stack = omega (arith, h.stack);
      room = omega (arith, h.room);
    })
    c.clear_stages.ensures c.clear_walk.ensures c.count_of.ensures.1)
