-- `bits` meets its contract: a NaN, and no other value, is not equal to itself. Assumes nothing.
use Rattle.std.proofs.Common.{sym}
use Rattle.report.proofs.Every.{shown_nan, shown_other}
use Rattle.report.proofs.bits.Goals as goal

pub returns-then-is_nan : goal.returns-then-is_nan
returns-then-is_nan c = shown_nan c.args.x (sym c.if-is_nan.ensures.value)

pub returns-else-is_nan : goal.returns-else-is_nan
returns-else-is_nan c = shown_other c.args.x (sym c.if-is_nan.ensures.value)
