-- the lines of the rows above row y are written
use Rattle.std.proofs.Common.{◌+◌, ◌*◌}
use Rattle.rules.proofs.Fill.{Filling}
use Rattle.frame.proofs.Writing.{shown_at}
use Rattle.frame.proofs.text.put_rows.Given as goal

abbrev pub invariant-loop-y : goal.invariant-loop-y
invariant-loop-y l =
    Filling (l.height * (l.width + 1)) (l.y * (l.width + 1)) (shown_at (record { width = l.width; height = l.height }) l.map) l.initial.text l.text
