-- the row's characters up to place x are written
use Rattle.std.proofs.Common.{cond, ◌+◌, ltb, length, get_or}
use Rattle.rules.specs.Frame.{pixel_text, newline}
use Rattle.rules.proofs.Fill.{Filling}
use Rattle.frame.proofs.text.put_row.Given as goal

abbrev pub invariant-loop-x : goal.invariant-loop-x
invariant-loop-x l =
    Filling (length l.row + 1) l.x (λ k. cond (ltb k (length l.row)) (pixel_text (get_or l.row k 0)) newline) l.initial.text l.text
