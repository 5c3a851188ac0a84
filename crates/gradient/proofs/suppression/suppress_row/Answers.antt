-- `suppress_row` meets its contract: a filling loop between two single stores. Assumes nothing.
use Rattle.std.proofs.Common.{◌≡◌, ℕ, ◌+◌, ◌-◌, ◌<◌, List, length, refl, arith, ltb, lt-ltb, le-ltb}
use mathlib.Core.Bool.{and-false}
use lib.IntN.{ℤ}
use lib.Ieee.{Float}
use lib.ListN.{set, length-set}
use Rattle.rules.specs.Picture.{filled}
use Rattle.rules.specs.Sums.{plus_zero}
use Rattle.rules.proofs.Fill.{filling_more, filling_end, fill_start, fill_more}
use Rattle.gradient.specs.Beside.{row_at}
use Rattle.gradient.proofs.Rows.{filling_from}
use Rattle.gradient.proofs.suppression.suppress_row.Goals as goal

-- after the first store
opened : (magnitude : List Float) (gx gy : List ℤ) (start : ℕ) (out : List Float) → 0 < length out
    → set out 0 plus_zero ≡ filled 1 (row_at (length out) magnitude gx gy start) out
unfolding row_at
opened magnitude gx gy start out h = fill_more 0 _ out _ plus_zero h (fill_start _ _) refl

pub loop-x-init : goal.loop-x-init
loop-x-init c =
    let a = c.args in
    let o = opened a.magnitude.now a.gx.now a.gy.now a.start a.out.now (omega arith) in
    record { within = omega arith; same = length-set _ _ _; is = o }

pub loop-x-preserved : goal.loop-x-preserved
unfolding row_at
loop-x-preserved c =
    let l = c.loop-x in
    filling_more (omega arith) (omega arith) l.invariant (rw (lt-ltb 0 l.x (omega arith), lt-ltb (l.x + 1) (length c.args.out.now) (omega arith)) c.suppressed.ensures)

pub returns : goal.returns
unfolding row_at
returns c =
    let l = c.loop-x in
    let n = length c.args.out.now in
    let e : n - 1 + 1 ≡ n = omega (arith, c.requires.least) in
    let a = c.args in
    let v : plus_zero ≡ row_at n a.magnitude.now a.gx.now a.gy.now a.start (n - 1) = rw (le-ltb (n - 1 + 1) n (omega arith), and-false (ltb 0 (n - 1))) in
    filling_end (filling_more {v = plus_zero} (omega arith) (omega (arith, c.requires.least)) (filling_from l.invariant (omega arith)) v) (omega arith)
