-- `decode_taps` meets its contract: a filling loop. Assumes nothing.
use Rattle.std.proofs.Common.{ap, ◌∙◌}
use Rattle.std.specs.Float.{binary32}
use Rattle.std.specs.Float.Ieee.{of_bits}
use Rattle.rules.proofs.Fill.{filling_start, filling_more, filling_end}
use Rattle.frame.proofs.layout.decode_taps.Goals as goal

pub loop-k-init : goal.loop-k-init
loop-k-init c = filling_start

pub loop-k-preserved : goal.loop-k-preserved
loop-k-preserved c = filling_more c.requires.1 c.loop-k-test.true c.loop-k.invariant (c.float.ensures ∙ ap (of_bits binary32) c.word.ensures)

pub returns : goal.returns
returns c = filling_end c.loop-k.invariant c.loop-k-test.false
