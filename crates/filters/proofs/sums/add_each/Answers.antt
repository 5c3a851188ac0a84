-- `add_each` meets its contract: a filling loop whose samples are the calls' results. Assumes nothing.
use native.Mathlib.Omega.{arith}
use Rattle.rules.proofs.Fill.{fill_start}
use Rattle.filters.proofs.Taps.{adding_more}
use Rattle.filters.proofs.sums.add_each.Goals as goal

pub loop-i-init : goal.loop-i-init
loop-i-init g c = λ v e. fill_start _ _

pub loop-i-preserved : goal.loop-i-preserved
loop-i-preserved g c = λ v e. adding_more _ _ v _ (omega arith) (c.loop-i.invariant v e) (e _ _ c.loop-i-test.true c.sample.ensures)
