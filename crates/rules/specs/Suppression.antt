-- Non-maximum suppression (01.Gradient.18, 01.Gradient.19).
use Rattle.std.specs.Prelude.{ℕ, ◌+◌, ◌*◌, Bool, cond, ◌&&◌, List, ltb, get_or, ℤ, pos, nat_abs, ◌+ℤ◌, Float}
use Rattle.std.specs.Float.{nan}
use Rattle.std.specs.Float.Ieee.{le}
use Rattle.rules.specs.Sums.{plus_zero}
use Rattle.rules.specs.Sector.{Offset, sector_of, neighbours}
use Rattle.rules.specs.declared.Size.{Size}

-- not in an outer row or column: a side under 3 has no inner pixel
abbrev pub inner : Size → ℕ → ℕ → Bool
inner d x y = ltb 0 x && (ltb (x + 1) d.width && (ltb 0 y && ltb (y + 1) d.height))

-- ---- of any values

-- what suppression asks of the values: which one stands where nothing is kept, which comparison keeps, and which one stands for no entry
pub record Values (A : Type 0) : Type 0 where
  pub zero : A
  pub at_most : A → A → Bool
  pub none : A

-- any neighbour table: `neighbours` is the one, and another can be held against it (specs/Diagonals)
abbrev pub Table : Type 0
Table = ℕ → Offset × Offset

module _ {A : Type 0} (v : Values A) where
  -- the value at a step from an inner pixel
  abbrev pub beside : Size → List A → ℕ → ℕ → Offset → A
  beside d values x y o = get_or values (nat_abs (pos y +ℤ o.dy) * d.width + nat_abs (pos x +ℤ o.dx)) v.none

  -- at least both neighbours'
  abbrev pub keeps : A → A → A → Bool
  keeps m a b = v.at_most a m && v.at_most b m

  -- what stands at (x, y) afterwards
  unfoldable pub suppressed_by : Table → Size → List A → List ℤ → List ℤ → ℕ → ℕ → A
  suppressed_by table d values gx gy x y =
      let i = y * d.width + x in
      let m = get_or values i v.none in
      let n = table (sector_of (get_or gx i (pos 0)) (get_or gy i (pos 0))) in
      cond (inner d x y && keeps m (beside d values x y n.0) (beside d values x y n.1)) m v.zero

-- ---- of magnitudes

-- by IEEE comparison, which no NaN passes
abbrev pub floats : Values Float
floats = record { zero = plus_zero; at_most = le; none = nan }

unfoldable pub suppressed_at : Size → List Float → List ℤ → List ℤ → ℕ → ℕ → Float
suppressed_at d magnitudes gx gy x y = suppressed_by floats neighbours d magnitudes gx gy x y
