-- `add_each` meets its contract: a filling loop whose samples are the calls' results. Assumes nothing.
use Prim.Native.Nat.{ℕ, ◌<◌}
use mathlib.Core.Path.{◌≡◌}
use lib.ListN.{length}
use lib.Ieee.{Float}
use Rattle.rules.specs.Picture.{filled}
use Rattle.filters.specs.Blocks.{added}
use Rattle.filters.proofs.sums.add_each.Given as goal

abbrev pub invariant-loop-i : goal.invariant-loop-i
invariant-loop-i g l =
    (v : ℕ → Float) → ((i : ℕ) (s : Float) → i < length l.initial.sums → goal.F-post g l.sample i s → s ≡ v i) → l.sums ≡ filled l.i (added l.initial.sums v l.weight) l.initial.sums
