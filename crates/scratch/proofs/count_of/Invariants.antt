-- `count_of` meets its contract, block by block: what it has found, and what is left to count, are the whole count. Assumes nothing.
use Prim.Native.Nat.{◌+◌}
use mathlib.Core.Path.{◌≡◌}
use Rattle.std.proofs.Common.{length}
use Rattle.std.specs.Slice.Iter.{chunks_rest, chunks_size}
use Rattle.rules.specs.Walk.{count}
use Rattle.scratch.proofs.count_of.Given as goal

abbrev pub invariant-loop-block : goal.invariant-loop-block
invariant-loop-block l =
    let rest = chunks_rest l.block-iterator in
    (chunks_size l.block-iterator ≡ 255) × (l.found + count l.v rest (length rest) ≡ count l.v l.bytes l.most)
