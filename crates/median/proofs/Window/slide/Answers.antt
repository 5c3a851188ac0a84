-- `slide` meets its contract: at each pixel the counts are its window's, and the value that they select is its median. Assumes nothing.
use native.Mathlib.Omega.{arith}
use native.Mathlib.Nat.{mul-le-mul}
use mathlib.Core.Path.{◌≡◌}
use Prim.Native.Nat.{◌+◌, ◌*◌, ◌≤◌}
use lib.ListN.{length}
use Rattle.rules.specs.Limits.{max_window}
use Rattle.border.proofs.Writing.{writing_start, writing_more, writing_end, row_of_picture}
use Rattle.median.proofs.Windows.{counts_of, all_counted, median_at_lem, no_columns, none_below}
use Rattle.median.proofs.Window.slide.Goals as goal

pub first_window-requires : goal.first_window-requires
first_window-requires c = no_columns

pub overflow_mul-item : goal.overflow_mul-item
overflow_mul-item c =
    -- the window's area is small
    let k = length c.args.self.now.rows.now in
    let r = c.args.self.now.fits in
    let h : 1 ≤ k = r.some in
    let q : (1 ≤ k * k) × (k * k ≤ max_window * max_window) = (mul-le-mul h h, mul-le-mul r.few r.few) in
    omega (arith, q)

pub overflow_mul-a : goal.overflow_mul-a
overflow_mul-a c =
    -- the picture's area is small
    let r = row_of_picture _ _ _ c.args.self.now.fits.picture c.requires.0.row in
    omega (arith, r)

pub loop-x-init : goal.loop-x-init
loop-x-init c =
    let z : c.args.y * c.args.self.now.size.width + 0 ≡ c.args.y * c.args.self.now.size.width = omega arith in
    (rw z (writing_start (omega arith)), c.first_window.ensures, none_below)

pub select-found-requires : goal.select-found-requires
select-found-requires c =
    let k = length c.args.self.now.rows.now in
    let r = c.args.self.now.fits in
    let h : 1 ≤ k = r.some in
    let q : (1 ≤ k * k) × (k * k ≤ max_window * max_window) = (mul-le-mul h h, mul-le-mul r.few r.few) in
    let i = c.loop-x.invariant in
    let n = all_counted r c.requires.0 i.1 c.args.self.now.bytes in
    (counts_of r (omega arith) i.1, i.2, omega arith, omega arith)

pub overflow_cast-out : goal.overflow_cast-out
overflow_cast-out c = record { fits = c.select-found.ensures.middle.byte }

pub overflow_add-out : goal.overflow_add-out
overflow_add-out c =
    let r = row_of_picture _ _ _ c.args.self.now.fits.picture c.requires.0.row in
    omega (arith, r)

pub bounds-out-a : goal.bounds-out-a
bounds-out-a c =
    let r = row_of_picture _ _ _ c.args.self.now.fits.picture c.requires.0.row in
    omega (arith, r, c.loop-x.invariant.0.same, c.requires.1, c.loop-x-test.true)

pub move_window-found-requires : goal.move_window-found-requires
move_window-found-requires c =
    let k = length c.args.self.now.rows.now in
    let r = c.args.self.now.fits in
    let h : 1 ≤ k = r.some in
    let q : (1 ≤ k * k) × (k * k ≤ max_window * max_window) = (mul-le-mul h h, mul-le-mul r.few r.few) in
    let e = c.select-found.ensures in
    (c.loop-x-test.true, c.loop-x.invariant.1, e.middle, omega (arith, q, e.from))

pub loop-x-preserved : goal.loop-x-preserved
loop-x-preserved c =
    let r = row_of_picture _ _ _ c.args.self.now.fits.picture c.requires.0.row in
    let w = c.args.y * c.args.self.now.size.width in
    let z : w + (c.loop-x.x + 1) ≡ w + c.loop-x.x + 1 = omega arith in
    let v = median_at_lem c.args.self.now.fits c.requires.0 c.loop-x.invariant.1 c.loop-x-test.true c.select-found.ensures in
    (rw z (writing_more (omega (arith, c.requires.1)) (omega arith) c.loop-x.invariant.0 v), c.move_window-found.ensures.0, c.move_window-found.ensures.1)

pub returns : goal.returns
returns c = writing_end c.loop-x.invariant.0 (omega arith)
