-- `are_magnitudes`: all so far, entry by entry. Assumes nothing.
use Rattle.std.proofs.Common.{◌≡◌, true}
use lib.Ieee.{nan}
use Rattle.rules.specs.Calls.{magnitude_at}
use Rattle.gradient.specs.Entries.{AllBelow}
use Rattle.gradient.proofs.magnitude.are_magnitudes.Given as goal

abbrev pub invariant-loop-i : goal.invariant-loop-i
invariant-loop-i l = l.all ≡ true → AllBelow nan l.i (magnitude_at l.gx l.gy) l.magnitude
