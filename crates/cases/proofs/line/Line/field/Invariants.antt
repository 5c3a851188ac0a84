-- `Line::field` ends: what is left to look through gets shorter. Assumes nothing.
use Rattle.std.proofs.Common.{length}
use Rattle.cases.proofs.line.Line.field.Given as goal

abbrev pub decreases-loop-byte : goal.decreases-loop-byte
decreases-loop-byte l = length l.text
