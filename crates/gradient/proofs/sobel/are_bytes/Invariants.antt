-- `are_bytes`: all so far, entry by entry. Assumes nothing.
use Rattle.std.proofs.Common.{◌≡◌, true}
use Rattle.gradient.specs.Bytes.{byte_by}
use Rattle.gradient.specs.Entries.{AllBelow}
use Rattle.gradient.proofs.sobel.are_bytes.Given as goal

abbrev pub invariant-loop-i : goal.invariant-loop-i
invariant-loop-i l = l.all ≡ true → AllBelow 0 l.i (byte_by l.sums) l.bytes
