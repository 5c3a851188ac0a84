-- `fill_by`: a filling loop, by any rule that the closure keeps to. Assumes nothing.
use Rattle.std.proofs.Common.{ℕ, length}
use Rattle.rules.proofs.Fill.{Filling}
use Rattle.gradient.specs.Gives.{Gives}
use Rattle.gradient.proofs.fill.fill_by.Given as goal

abbrev pub invariant-loop-i : goal.invariant-loop-i
invariant-loop-i g l = (f : ℕ → _) → Gives (goal.F-post g l.value) (length l.initial.out) f → Filling (length l.initial.out) l.i f l.initial.out l.out
