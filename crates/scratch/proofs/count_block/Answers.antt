-- `count_block` meets its contract: what it has found is what was counted so far. Assumes nothing.
use borrow.Author.Rules.{rules}
use borrow.Author.Tests.{eq-eqb, ne_eqb}
use native.Mathlib.Omega.{arith}
use Rattle.rules.specs.Picture.{tally}
use Rattle.rules.specs.Walk.{has}
use Rattle.rules.proofs.Tallies.{tally_yes, tally_no}
use Rattle.scratch.proofs.count_block.Goals as goal
use Rattle.scratch.proofs.count_block.Goals.{then-byte-v, else-byte-v}

pub loop-byte-init : goal.loop-byte-init
unfolding tally
loop-byte-init c = search rules

pub loop-byte-preserved : goal.loop-byte-preserved
loop-byte-preserved c =
    elim c.if-byte-v.branch [
      | then-byte-v w ↦ (omega arith, tally_yes (has c.args.v c.args.block.now) c.loop-byte.byte-index _ _ c.loop-byte.invariant.1 (eq-eqb _ _ w.if-byte-v.true) w.found-is)
      | else-byte-v w ↦ (omega arith, tally_no (has c.args.v c.args.block.now) c.loop-byte.byte-index _ _ c.loop-byte.invariant.1 (ne_eqb _ _ w.if-byte-v.false) w.found-is)
    ]
