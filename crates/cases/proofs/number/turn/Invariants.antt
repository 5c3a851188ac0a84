-- `turn` meets its contract: a filling loop. Assumes nothing.
use Rattle.std.proofs.Common.{get_or}
use Rattle.rules.proofs.Fill.{Filling}
use Rattle.cases.proofs.number.turn.Given as goal

abbrev pub invariant-loop-i : goal.invariant-loop-i
invariant-loop-i g l = Filling l.most l.i (λ k. g.T.Number.of (get_or l.list k 0)) l.initial.out l.out
