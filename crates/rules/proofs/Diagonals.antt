-- Where no inner pixel has a diagonal gradient, the vendor's neighbour table gives what the published one does (02.2.5). Assumes nothing.
use mathlib.Core.Path.{◌≡◌, refl, ap}
use mathlib.Core.Bool.{Bool, true, false, ◌&&◌, ◌||◌}
use mathlib.Core.List.{List}
use Prim.Native.Nat.{ℕ, ◌+◌, ◌*◌, ◌/◌, ◌%◌}
use lib.Dec.{eqb}
use lib.ListN.{get_or}
use lib.IntN.{ℤ, pos}
use Rattle.rules.specs.Picture.{area, in_row_order}
use Rattle.rules.specs.Sector.{sector_of, neighbours}
use Rattle.rules.specs.Suppression.{Values, inner, suppressed_by}
use Rattle.rules.specs.Run.{suppressed_under, edges_of, run_edges}
use Rattle.rules.specs.Diagonals.{vendor_neighbours, diagonal_at, any_diagonal, any_diagonal_in, OffDiagonals}
use Rattle.rules.specs.declared.Size.{Size}
use Rattle.rules.proofs.Bools.{neither}
use Rattle.rules.proofs.Fill.{tabulate_cong}
use Rattle.rules.proofs.Grid.{pixel_of}
use Rattle.rules.proofs.Tests.{any_none}

-- the tables agree off the diagonals
agree : (s : ℕ) → (eqb s 45 || eqb s 135) ≡ false → vendor_neighbours s ≡ neighbours s
unfolding vendor_neighbours
agree s e = let p = neither (eqb s 45) (eqb s 135) e in rw (p.0, p.1)

module _ {A : Type 0} (v : Values A) (d : Size) (values : List A) (gx gy : List ℤ) where
  abbrev sector : ℕ → ℕ
  sector i = sector_of (get_or gx i (pos 0)) (get_or gy i (pos 0))

  pixel : (x y : ℕ) → let s = sector (y * d.width + x) in (inner d x y && (eqb s 45 || eqb s 135)) ≡ false
      → suppressed_by v vendor_neighbours d values gx gy x y ≡ suppressed_by v neighbours d values gx gy x y
  unfolding suppressed_by
  pixel x y e = go (inner d x y) refl
    where
      go : (b : Bool) → inner d x y ≡ b → suppressed_by v vendor_neighbours d values gx gy x y ≡ suppressed_by v neighbours d values gx gy x y
      go true q = rw (agree (sector (y * d.width + x)) (rw q at e))
      go false q = rw q

  alike : any_diagonal d gx gy ≡ false
      → in_row_order d (suppressed_by v vendor_neighbours d values gx gy) ≡ in_row_order d (suppressed_by v neighbours d values gx gy)
  unfolding any_diagonal
  alike e =
      tabulate_cong (area d) _ _
      (λ i l. pixel (i % d.width) (i / d.width) (rw (pixel_of d i l) (any_none (diagonal_at d gx gy) (area d) e i l)))

pub off_diagonals : OffDiagonals
unfolding suppressed_under run_edges any_diagonal_in
off_diagonals =
    record {
      suppressed = λ v d values gx gy e. alike v d values gx gy e;
      edges = λ d pixels taps t e. ap (edges_of d t) (alike _ d _ _ _ e);
    }
