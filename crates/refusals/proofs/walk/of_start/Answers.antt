-- Its thresholds' two rows are one check. Assumes nothing.
use mathlib.Core.Path.{◌≡◌}
use mathlib.Core.List.{[], ◌∷◌}
use borrow.Author.Rules.{rules}
use Rattle.rules.specs.Answers.{number}
use Rattle.rules.specs.Refusals.{threshold_row, order_row, room_row, first}
use Rattle.refusals.proofs.Down.{ended, passed}
use Rattle.refusals.proofs.walk.of_start.Goals as goal

pub returns-in_err-check_thresholds : goal.returns-in_err-check_thresholds
returns-in_err-check_thresholds c =
    let a = c.args in
    let e = ended (threshold_row a.thresholds ∷ order_row a.thresholds ∷ []) (room_row a.size a.marks.now ∷ room_row a.size a.stack.now ∷ []) c.in_err-check_thresholds.field-0.0 c.in_err-check_thresholds.ensures in
    search (rules, e)

pub returns-in_err-check_room : goal.returns-in_err-check_room
returns-in_err-check_room c =
    let a = c.args in
    let q : number c.from_residual-in_err-check_room.result ≡ first (room_row a.size a.marks.now ∷ room_row a.size a.stack.now ∷ []) = search rules in
    let e = passed (threshold_row a.thresholds ∷ order_row a.thresholds ∷ []) (room_row a.size a.marks.now ∷ room_row a.size a.stack.now ∷ []) (number c.from_residual-in_err-check_room.result) tt c.in_ok-check_thresholds.ensures q in
    search (rules, e)

pub returns : goal.returns
returns c =
    let a = c.args in
    let q : number c.check_room-2.result ≡ first (room_row a.size a.marks.now ∷ room_row a.size a.stack.now ∷ []) = search rules in
    let e = passed (threshold_row a.thresholds ∷ order_row a.thresholds ∷ []) (room_row a.size a.marks.now ∷ room_row a.size a.stack.now ∷ []) (number c.check_room-2.result) tt c.in_ok-check_thresholds.ensures q in
    search (rules, e)
