-- `count_block` meets its contract: what it has found is what was counted so far. Assumes nothing.
use Prim.Native.Nat.{◌≤◌}
use mathlib.Core.Path.{◌≡◌}
use Rattle.rules.specs.Walk.{count}
use Rattle.scratch.proofs.count_block.Given as goal

abbrev pub invariant-loop-byte : goal.invariant-loop-byte
invariant-loop-byte l = (l.found ≤ l.byte-index) × (l.found ≡ count l.v l.block l.byte-index)
