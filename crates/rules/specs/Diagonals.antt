-- The diagonals the published way (02.2): the table that 01 had, which is the vendor's, and where it gives the same answers.
use Rattle.std.specs.Prelude.{ℕ, ◌/◌, ◌%◌, ◌≡◌, Bool, false, cond, ◌&&◌, ◌||◌, List, eqb, get_or, ℤ, pos, Float}
use Rattle.rules.specs.Picture.{area, any_below, in_row_order}
use Rattle.rules.specs.Gradient.{gx_table, gy_table}
use Rattle.rules.specs.Sector.{sector_of, neighbours}
use Rattle.rules.specs.Suppression.{Table, Values, inner, suppressed_by}
use Rattle.rules.specs.Run.{blurred_of, component_of, suppressed_under, edges_of, run_edges}
use Rattle.rules.specs.declared.Size.{Size}
use Rattle.rules.specs.declared.Thresholds.{Thresholds}

-- the vendor's table: the rows of sectors 45 and 135 in each other's place (02.2.3)
unfoldable pub vendor_neighbours : Table
vendor_neighbours sector = neighbours (cond (eqb sector 45) 135 (cond (eqb sector 135) 45 sector))

-- whether an inner pixel has a diagonal gradient: one in sector 45 or 135
abbrev pub diagonal_at : Size → List ℤ → List ℤ → ℕ → Bool
diagonal_at d gx gy i =
    let sector = sector_of (get_or gx i (pos 0)) (get_or gy i (pos 0)) in
    inner d (i % d.width) (i / d.width) && (eqb sector 45 || eqb sector 135)

unfoldable pub any_diagonal : Size → List ℤ → List ℤ → Bool
any_diagonal d gx gy = any_below (diagonal_at d gx gy) (area d)

-- of a run: in the picture after blur
unfoldable pub any_diagonal_in : Size → List ℕ → List Float → Bool
any_diagonal_in d pixels taps =
    let blurred = blurred_of d pixels taps in
    any_diagonal d (component_of gx_table d blurred) (component_of gy_table d blurred)

-- 02.2.5: without a diagonal gradient both tables suppress alike, whatever the values are, and the whole run's map is the same by either
pub record OffDiagonals : Type 1 where
  pub suppressed : {A : Type 0} (v : Values A) (d : Size) (values : List A) (gx gy : List ℤ) → any_diagonal d gx gy ≡ false
      → in_row_order d (suppressed_by v vendor_neighbours d values gx gy) ≡ in_row_order d (suppressed_by v neighbours d values gx gy)
  pub edges : (d : Size) (pixels : List ℕ) (taps : List Float) (t : Thresholds) → any_diagonal_in d pixels taps ≡ false
      → edges_of d t (suppressed_under vendor_neighbours d pixels taps) ≡ run_edges d pixels taps t
