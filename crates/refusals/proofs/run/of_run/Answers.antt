-- `of_run` goes down its table: the rows before room, which are one check, and those for room. Assumes nothing.
use mathlib.Core.Path.{◌≡◌}
use mathlib.Core.List.{List, [], ◌∷◌}
use Prim.Native.Nat.{ℕ}
use borrow.Author.Rules.{rules}
use lib.Ieee.{Float}
use Rattle.rules.specs.Answers.{number, number_of}
use Rattle.rules.specs.Refusals.{Scratch, first, scratch, run_front, scratch_rows, run_rows, room_row}
use Rattle.rules.specs.declared.Size.{Size}
use Rattle.rules.specs.declared.Thresholds.{Thresholds}
use Rattle.refusals.proofs.Down.{ended, passed}
use Rattle.refusals.proofs.run.of_run.Goals as goal

by_room : (d : Size) (pixels : List ℕ) (taps : List Float) (t : Thresholds) (s : Scratch) (map : List ℕ) (r : ℕ)
    → 0 ≡ first (run_front d pixels taps t []) → r ≡ first (scratch_rows d s map) → r ≡ first (run_rows d pixels taps t s map)
by_room d pixels taps t s map r p q = passed (run_front d pixels taps t []) (scratch_rows d s map) r tt p q

pub returns-in_err-before_room : goal.returns-in_err-before_room
returns-in_err-before_room c =
    let a = c.args in
    let s = scratch a.work.now a.magnitude.now a.gx.now a.gy.now a.blurred.now a.marks.now a.stack.now in
    let q : number c.from_residual.result ≡ number_of c.in_err-before_room.field-0.0 = search rules in
    rw q (ended (run_front a.size a.pixels.now a.taps.now a.thresholds []) (scratch_rows a.size s a.map.now) c.in_err-before_room.field-0.0 c.in_err-before_room.ensures)

pub returns-in_err-check_room : goal.returns-in_err-check_room
returns-in_err-check_room c =
    let a = c.args in
    by_room a.size a.pixels.now a.taps.now a.thresholds (scratch a.work.now a.magnitude.now a.gx.now a.gy.now a.blurred.now a.marks.now a.stack.now) a.map.now
    _ (search rules) (search rules)

pub returns-in_err-check_room-2 : goal.returns-in_err-check_room-2
returns-in_err-check_room-2 c =
    let a = c.args in
    by_room a.size a.pixels.now a.taps.now a.thresholds (scratch a.work.now a.magnitude.now a.gx.now a.gy.now a.blurred.now a.marks.now a.stack.now) a.map.now
    _ (search rules) (search rules)

pub returns-in_err-check_room-3 : goal.returns-in_err-check_room-3
returns-in_err-check_room-3 c =
    let a = c.args in
    by_room a.size a.pixels.now a.taps.now a.thresholds (scratch a.work.now a.magnitude.now a.gx.now a.gy.now a.blurred.now a.marks.now a.stack.now) a.map.now
    _ (search rules) (search rules)

pub returns-in_err-check_room-4 : goal.returns-in_err-check_room-4
returns-in_err-check_room-4 c =
    let a = c.args in
    by_room a.size a.pixels.now a.taps.now a.thresholds (scratch a.work.now a.magnitude.now a.gx.now a.gy.now a.blurred.now a.marks.now a.stack.now) a.map.now
    _ (search rules) (search rules)

pub returns-in_err-check_room-5 : goal.returns-in_err-check_room-5
returns-in_err-check_room-5 c =
    let a = c.args in
    let e = ended (room_row a.size a.blurred.now ∷ []) (room_row a.size a.marks.now ∷ room_row a.size a.stack.now ∷ room_row a.size a.map.now ∷ []) c.in_err-check_room-5.field-0.0 c.in_err-check_room-5.ensures in
    by_room a.size a.pixels.now a.taps.now a.thresholds (scratch a.work.now a.magnitude.now a.gx.now a.gy.now a.blurred.now a.marks.now a.stack.now) a.map.now
    _ (search rules) (search (rules, e))

pub returns-in_err-check_room-6 : goal.returns-in_err-check_room-6
returns-in_err-check_room-6 c =
    let a = c.args in
    let e = ended (room_row a.size a.marks.now ∷ []) (room_row a.size a.stack.now ∷ room_row a.size a.map.now ∷ []) c.in_err-check_room-6.field-0.0 c.in_err-check_room-6.ensures in
    by_room a.size a.pixels.now a.taps.now a.thresholds (scratch a.work.now a.magnitude.now a.gx.now a.gy.now a.blurred.now a.marks.now a.stack.now) a.map.now
    _ (search rules) (search (rules, e))

pub returns-in_err-check_room-7 : goal.returns-in_err-check_room-7
returns-in_err-check_room-7 c =
    let a = c.args in
    let e = ended (room_row a.size a.stack.now ∷ []) (room_row a.size a.map.now ∷ []) c.in_err-check_room-7.field-0.0 c.in_err-check_room-7.ensures in
    by_room a.size a.pixels.now a.taps.now a.thresholds (scratch a.work.now a.magnitude.now a.gx.now a.gy.now a.blurred.now a.marks.now a.stack.now) a.map.now
    _ (search rules) (search (rules, e))

pub returns : goal.returns
returns c =
    let a = c.args in
    by_room a.size a.pixels.now a.taps.now a.thresholds (scratch a.work.now a.magnitude.now a.gx.now a.gy.now a.blurred.now a.marks.now a.stack.now) a.map.now
    _ (search rules) (search rules)
