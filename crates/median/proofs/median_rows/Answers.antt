-- `median_rows` meets its contract: no columns, or row by row. Assumes nothing.
use native.Mathlib.Omega.{arith}
use native.Mathlib.Nat.{zero-mul}
use Rattle.rules.specs.Picture.{tabulate}
use Rattle.border.proofs.Writing.{rows_start, rows_more, rows_all}
use Rattle.median.proofs.median_rows.Goals as goal

pub returns-then-size-eq0 : goal.returns-then-size-eq0
unfolding tabulate
returns-then-size-eq0 c = rw (c.if-size-eq0.true, zero-mul)

pub loop-y-init : goal.loop-y-init
loop-y-init c = rows_start

pub loop-y-preserved : goal.loop-y-preserved
loop-y-preserved c = rows_more c.requires.3 (omega arith) c.loop-y.invariant c.median_row.ensures

pub returns : goal.returns
returns c = rows_all c.loop-y.invariant (omega arith)
