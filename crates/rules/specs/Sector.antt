-- The sector of a gradient, by squares, and the neighbours that it chooses (01.Gradient.7 to 01.Gradient.17, with 02.2.3's diagonals).
use Rattle.std.specs.Prelude.{ℕ, ◌+◌, ◌*◌, cond, ◌&&◌, ltb, eqb, ℤ, pos, negsuc, nat_abs}
use Rattle.std.specs.Bool.{beq}
use Rattle.std.specs.Int.Signed.{non_neg}

abbrev pub square : ℕ → ℕ
square n = n * n

-- with a = |gx| and b = |gy|: both zero 0; else (a + b)² < 2a² 0; else (a + b)² < 2b² 90; else equal signs 45, opposite signs 135
unfoldable pub sector_of : ℤ → ℤ → ℕ
sector_of gx gy =
    let a = nat_abs gx in
    let b = nat_abs gy in
    cond (eqb a 0 && eqb b 0) 0
    (cond (ltb (square (a + b)) (2 * square a)) 0
    (cond (ltb (square (a + b)) (2 * square b)) 90
    (cond (beq (non_neg gx) (non_neg gy)) 45 135)))

-- a step to a neighbour: columns to the right, rows downwards
pub record Offset : Type 0 where
  pub dx : ℤ
  pub dy : ℤ

abbrev pub offset : ℤ → ℤ → Offset
offset x y = record { dx = x; dy = y }

-- THE NEIGHBOUR TABLE, the only place that says which two neighbours a sector compares. Its diagonal rows are 02.2.3's: y runs downwards, so
-- a gradient of equal signs, sector 45, points along (1,1).
unfoldable pub neighbours : ℕ → Offset × Offset
neighbours sector =
    let o = pos 0 in
    let l = negsuc 0 in
    let r = pos 1 in
    cond (eqb sector 0) (offset l o, offset r o)
    (cond (eqb sector 45) (offset l l, offset r r)
    (cond (eqb sector 90) (offset o l, offset o r)
    (offset r l, offset l r)))
