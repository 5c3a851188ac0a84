-- The last row of weights, which the search does not reach by itself. Assumes nothing.
use mathlib.Core.List.{[], ◌∷◌}
use borrow.Author.Rules.{rules}
use Rattle.rules.specs.Refusals.{weight_row, room_row}
use Rattle.refusals.proofs.Down.{ended}
use Rattle.refusals.proofs.filter.of_separable.Goals as goal

pub returns-in_err-check_weights-2 : goal.returns-in_err-check_weights-2
returns-in_err-check_weights-2 c =
    let a = c.args in
    let q = ended (weight_row a.vertical.now ∷ []) (room_row a.size a.work.now ∷ room_row a.size a.out.now ∷ []) c.in_err-check_weights-2.field-0.0 c.in_err-check_weights-2.ensures in
    search (rules, q)
