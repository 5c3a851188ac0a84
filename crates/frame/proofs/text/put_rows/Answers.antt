-- `put_rows` meets its contract: row after row fills the rows' places. Assumes nothing.
use Rattle.std.proofs.Common.{◌+◌, ◌*◌, ◌≡◌, refl, ◌∙◌, arith, rules}
use native.Mathlib.Nat.{zero-mul}
use Rattle.rules.proofs.Fill.{filling_start, filling_end}
use Rattle.rules.proofs.Grid.{part_length}
use Rattle.frame.proofs.Writing.{rows_are, source, room, row_long, rows_more}
use Rattle.frame.proofs.text.put_rows.Goals as goal

pub overflow_add-line : goal.overflow_add-line
overflow_add-line c = omega (arith, c.requires.wide)

pub loop-y-init : goal.loop-y-init
loop-y-init c = rw (zero-mul (c.args.size.width + 1)) filling_start

-- row y stands within the map
pub overflow_mul-from : goal.overflow_mul-from
overflow_mul-from c = omega (arith, source _ _ _ c.requires c.loop-y-test.true)

pub overflow_add-to : goal.overflow_add-to
overflow_add-to c = omega (arith, source _ _ _ c.requires c.loop-y-test.true)

-- and its line within the text
pub overflow_mul-at : goal.overflow_mul-at
overflow_mul-at c = omega (arith, room _ _ _ c.requires c.loop-y-test.true)

pub overflow_add-end : goal.overflow_add-end
overflow_add-end c = omega (arith, room _ _ _ c.requires c.loop-y-test.true)

pub slice_bounds-put_row-end-in-loop-y : goal.slice_bounds-put_row-end-in-loop-y
slice_bounds-put_row-end-in-loop-y c = omega (arith, room _ _ _ c.requires c.loop-y-test.true, c.loop-y.invariant.same)

pub put_row-requires : goal.put_row-requires
put_row-requires c =
    let line = c.args.size.width + 1 in
    let fits = room _ _ _ c.requires c.loop-y-test.true in
    let a = row_long c.args.size c.args.map.now c.loop-y.y c.requires c.loop-y-test.true in
    let b = part_length c.loop-y.text (c.loop-y.y * line) (c.loop-y.y * line + line) line refl (omega (arith, fits, c.loop-y.invariant.same)) in
    omega (arith, a, b)

pub loop-y-preserved : goal.loop-y-preserved
loop-y-preserved c = rows_more _ _ _ c.requires c.loop-y-test.true c.loop-y.invariant c.put_row.ensures

pub returns : goal.returns
returns c =
    let e : c.loop-y.y ≡ c.args.size.height = omega arith in
    filling_end c.loop-y.invariant (rw e (search rules)) ∙ rw (rows_are c.args.size c.args.map.now)
