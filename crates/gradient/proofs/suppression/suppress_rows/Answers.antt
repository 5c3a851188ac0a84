-- `suppress_rows` meets its contract: a picture filled row by row, the outer rows with +0. Assumes nothing.
use Rattle.std.proofs.Common.{◌≡◌, ℕ, ◌+◌, ◌-◌, ◌*◌, ◌/◌, ◌%◌, ◌<◌, ◌≤◌, List, length, refl, sym, ap, arith, add-mul, one-mul, mul_comm, min}
use native.Mathlib.Nat.{div-eq_of_lt}
use lib.IntN.{ℤ}
use lib.Ieee.{Float}
use Rattle.rules.specs.Picture.{area, by_pixel, filled, cleared}
use Rattle.rules.specs.Sums.{plus_zero}
use Rattle.rules.specs.Suppression.{suppressed_at}
use Rattle.rules.specs.declared.Size.{Size}
use Rattle.rules.proofs.Grid.{row_in_lem, part_length}
use Rattle.gradient.proofs.Neighbours.{outer_are, inner_row, put_row, has_rows}
use Rattle.rules.proofs.Fill.{filling_end}
use Rattle.gradient.proofs.Rows.{filling_from}
use Rattle.gradient.proofs.suppression.suppress_rows.Goals as goal

-- a row ends within the picture
ends : (d : Size) (y : ℕ) {start : ℕ} → start ≡ y * d.width → y < d.height → start + d.width ≤ area d
ends d y e h = omega (arith, row_in_lem y d.width d.height h)

-- the first row is in the picture, and +0
top : (d : Size) → 3 ≤ d.height → d.width ≤ area d
top d h = omega (arith, row_in_lem 0 d.width d.height (omega arith))

opened : (d : Size) (m : List Float) (gx gy : List ℤ) (o : List Float) {r : List Float} → 3 ≤ d.height → area d ≤ length o
    → r ≡ cleared (min d.width (length o)) plus_zero o → r ≡ filled d.width (by_pixel d (suppressed_at d m gx gy)) o
opened d m gx gy o h l e =
    outer_are d m gx gy (λ i. i % d.width) (λ i. i / d.width) d.width _ o (omega (arith, top d h)) (λ i k p. omega (arith, p.down, div-eq_of_lt k)) e

pub loop-y-init : goal.loop-y-init
loop-y-init c =
    let a = c.args in
    let r = c.requires in
    let o = opened a.size a.magnitude.now a.gx.now a.gy.now a.out.now r.3 r.1 c.clear.ensures in
    filling_from record { within = top a.size r.3; same = c.clear.auto.buffer; is = o } (sym (one-mul _))

pub suppress_row-requires : goal.suppress_row-requires
suppress_row-requires c =
    let d = c.args.size in
    let l = c.loop-y in
    let n = part_length l.out (l.y * d.width) _ d.width refl (omega (arith, ends d l.y refl (omega arith), c.requires.1, l.invariant.same)) in
    has_rows l.y c.requires.0 refl n (omega arith) (omega arith) c.requires.2

pub loop-y-preserved : goal.loop-y-preserved
loop-y-preserved c =
    let a = c.args in
    let d = a.size in
    let l = c.loop-y in
    let n = part_length l.out (l.y * d.width) _ d.width refl (omega (arith, ends d l.y refl (omega arith), c.requires.1, l.invariant.same)) in
    filling_from
    (put_row d a.magnitude.now a.gx.now a.gy.now l.y _ refl (omega arith) c.requires.1 l.invariant
    (inner_row d a.magnitude.now a.gx.now a.gy.now l.y _ refl _ _ n (omega arith) (omega arith) c.suppress_row.ensures))
    (omega (arith, add-mul l.y 1 d.width))

pub returns : goal.returns
returns c =
    let a = c.args in
    let d = a.size in
    let l = c.loop-y in
    let r = c.requires in
    let y = d.height - 1 in
    let h : y < d.height = omega (arith, r.3) in
    let u : y + 1 ≡ d.height = omega (arith, r.3) in
    let e : l.y ≡ y = omega (arith, r.3) in
    let n = part_length l.out (y * d.width) _ d.width refl (omega (arith, ends d y refl h, r.1, l.invariant.same)) in
    let last = put_row d a.magnitude.now a.gx.now a.gy.now y _ refl h r.1 (filling_from l.invariant (ap (λ (k : ℕ). k * d.width) e))
    (outer_are d a.magnitude.now a.gx.now a.gy.now (λ x. x) (λ x. y) d.width _ _ (omega (arith, n)) (λ x k p. omega (arith, p.up)) c.clear-2.ensures) in
    filling_end last (omega (arith, ap (λ (n : ℕ). n * d.width) u, add-mul y 1 d.width, mul_comm d.height d.width))
