-- Suppression along a row: a pixel's two neighbours lie opposite, so the offset of the first tells where both are read.
use Rattle.std.specs.Prelude.{ℕ, ◌+◌, ◌-◌, Bool, cond, ◌&&◌, List, ltb, eqb, get_or, ℤ, pos, Float}
use Rattle.std.specs.Float.{nan}
use Rattle.std.specs.Int.{w8}
use Rattle.std.proofs.Common.{of_z}
use Rattle.rules.specs.Sums.{plus_zero}
use Rattle.rules.specs.Sector.{Offset, sector_of, neighbours}
use Rattle.rules.specs.Suppression.{floats, keeps}

-- a component of an offset, compared as the code does it: by its bits
abbrev is : ℤ → ℕ → Bool
is z n = eqb (of_z w8 z) n

-- one of four by an offset: in the pixel's own row, or by its column in the row beside
unfoldable pub at_offset : Offset → Float → Float → Float → Float → Float
at_offset o beside left middle right = cond (is o.dy 0) beside (cond (is o.dx 0) middle (cond (is o.dx 1) right left))

-- the magnitudes of both neighbours of pixel i, from the offset of the first
abbrev pub first_at : ℕ → List Float → ℕ → Offset → Float
first_at w m i o = at_offset o (get_or m (i - 1) nan) (get_or m (i - w - 1) nan) (get_or m (i - w) nan) (get_or m (i - w + 1) nan)

abbrev pub second_at : ℕ → List Float → ℕ → Offset → Float
second_at w m i o = at_offset o (get_or m (i + 1) nan) (get_or m (i + w + 1) nan) (get_or m (i + w) nan) (get_or m (i + w - 1) nan)

-- what stands at inner pixel i afterwards
unfoldable pub kept_at : ℕ → List Float → List ℤ → List ℤ → ℕ → Float
kept_at w magnitudes gx gy i =
    let m = get_or magnitudes i nan in
    let o = (neighbours (sector_of (get_or gx i (pos 0)) (get_or gy i (pos 0)))).0 in
    cond (keeps floats m (first_at w magnitudes i o) (second_at w magnitudes i o)) m plus_zero

-- and in column x of an inner row that begins at `start`
unfoldable pub row_at : ℕ → List Float → List ℤ → List ℤ → ℕ → ℕ → Float
row_at w magnitudes gx gy start x = cond (ltb 0 x && ltb (x + 1) w) (kept_at w magnitudes gx gy (start + x)) plus_zero
