-- `run` meets its contract: the whole run answers the same whatever its scratch holds. Assumes nothing.
use Rattle.std.proofs.Common.{◌≤◌, sym, ap, ◌∙◌, length, arith}
use Rattle.rules.specs.Picture.{area}
use Rattle.frame.specs.Running.{shown}
use Rattle.frame.proofs.Runs.{any_scratch, ran_is}
use Rattle.frame.proofs.running.run.Goals as goal

pub returns : goal.returns
returns c =
    let a = c.args in
    let h = c.requires.small in
    let m : area a.size ≤ length a.map.now = omega (arith, h, c.requires.room) in
    ap shown c.canny.ensures
    ∙ any_scratch a.size a.pixels.now a.taps.now a.thresholds _ a.map.now
    (record { work = h; magnitude = h; gx = h; gy = h; blurred = h; marks = h; stack = h; room = m })
    ∙ sym (ran_is a.size a.pixels.now a.taps.now a.thresholds a.map.now m)
