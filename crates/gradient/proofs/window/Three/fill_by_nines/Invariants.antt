-- `Three::fill_by_nines`: three filling loops in turn, by any rule that the closure keeps to. Assumes nothing.
use Rattle.std.proofs.Common.{ℕ, ◌+◌, length, List}
use Rattle.rules.proofs.Fill.{Filling}
use Rattle.gradient.specs.Nine.{nine_in}
use Rattle.gradient.specs.Gives.{Makes}
use Rattle.gradient.proofs.window.Three.fill_by_nines.Given as goal

abbrev pub invariant-loop-k : goal.invariant-loop-k
invariant-loop-k g l = (f : List ℕ → _) → Makes (goal.F-post g l.made) f → Filling (length l.fn.out) l.k (λ k. f (nine_in l.self (l.from + k))) l.fn.out l.out

abbrev pub invariant-loop-k-2 : goal.invariant-loop-k-2
invariant-loop-k-2 g l = (f : List ℕ → _) → Makes (goal.F-post g l.made) f → Filling (length l.fn.out) l.k (λ k. f (nine_in l.self (l.from + k))) l.fn.out l.out

abbrev pub invariant-loop-k-3 : goal.invariant-loop-k-3
invariant-loop-k-3 g l = (f : List ℕ → _) → Makes (goal.F-post g l.made) f → Filling (length l.fn.out) l.k (λ k. f (nine_in l.self (l.from + k))) l.fn.out l.out
