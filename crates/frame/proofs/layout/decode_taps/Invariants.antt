-- the first k taps are decoded
use Rattle.std.proofs.Common.{◌+◌, ◌*◌}
use Rattle.std.specs.Float.{binary32}
use Rattle.std.specs.Float.Ieee.{of_bits}
use Rattle.rules.specs.Frame.{word_at, header_length}
use Rattle.rules.proofs.Fill.{Filling}
use Rattle.frame.proofs.layout.decode_taps.Given as goal

abbrev pub invariant-loop-k : goal.invariant-loop-k
invariant-loop-k l = Filling l.count l.k (λ j. of_bits binary32 (word_at l.file (header_length + 4 * j))) l.initial.taps l.taps
