-- `start` answers as the definition does. Assumes nothing.
use borrow.Author.Rules.{rules}
use mathlib.Core.Path.{sym}
use Rattle.rules.specs.Picture.{area}
use Rattle.rules.specs.Walk.{at_least}
use Rattle.rules.specs.Calls.{after_start}
use Rattle.hysteresis.proofs.Classing.{still_first, passes_of_part}
use Rattle.hysteresis.proofs.Numbers.{Startable, startable}
use Rattle.hysteresis.proofs.Answering.{start_refused, start_made}
use Rattle.hysteresis.proofs.start.Goals as goal

pub returns-in_err-of_start : goal.returns-in_err-of_start
returns-in_err-of_start c =
    let a = c.args in
    start_refused a.size a.thresholds a.magnitudes.now a.marks.now a.stack.now c.in_err-of_start.field-0.0 (search rules) c.in_err-of_start.ensures

pub pend-pending-requires : goal.pend-pending-requires
pend-pending-requires c =
    let a = c.args in
    let o : Startable a.size a.thresholds a.magnitudes.now a.marks.now a.stack.now = startable _ _ _ _ _ (sym c.in_ok-of_start.ensures) in
    let k = still_first (area a.size) _ a.marks.now o.marks_long c.mark_all.ensures in
    rw k (o.sides.small, o.stack_long)

pub returns : goal.returns
unfolding after_start
returns c =
    let a = c.args in
    let o : Startable a.size a.thresholds a.magnitudes.now a.marks.now a.stack.now = startable _ _ _ _ _ (sym c.in_ok-of_start.ensures) in
    start_made a.size a.thresholds a.magnitudes.now a.marks.now a.stack.now c.in_ok-of_start.ensures
    (passes_of_part (at_least a.thresholds.high a.magnitudes.now) (at_least a.thresholds.low a.magnitudes.now) a.marks.now a.stack.now
    o.marks_long c.mark_all.ensures c.pend-pending.ensures)
