-- The nine places around a pixel are the pixels that touch it. Assumes nothing.
use Prim.Native.Nat.{ℕ, ◌+◌, ◌-◌, ◌*◌, ◌/◌, ◌%◌, ◌≤◌, ◌<◌}
use native.Mathlib.Omega.{arith}
use mathlib.Core.Path.{◌≡◌, ap₂, ◌∙◌}
use mathlib.Core.Bool.{true}
use lib.Dec.{leb}
use borrow.Author.Tests.{le-leb, leb-true}
use Rattle.rules.specs.Picture.{area}
use Rattle.rules.specs.Walk.{inside, place}
use Rattle.rules.specs.Joined.{Touch}
use Rattle.rules.specs.declared.Size.{Size}
use Rattle.rules.proofs.Bools.{both}
use Rattle.rules.proofs.Grid.{pixel_in, column_of_lem, row_of_lem, column_in, row_below, pixel_of}

-- column nx - 1 and row ny - 1 are in the picture
pub record Within (d : Size) (nx ny : ℕ) : Type 0 where
  pub left : 1 ≤ nx
  pub right : nx ≤ d.width
  pub top : 1 ≤ ny
  pub bottom : ny ≤ d.height

pub within : (d : Size) (nx ny : ℕ) → inside d nx ny ≡ true → Within d nx ny
within d nx ny e =
    let a = both (leb 1 nx) _ e in
    let b = both (leb nx d.width) _ a.1 in
    let c = both (leb 1 ny) _ b.1 in
    record { left = leb-true _ _ a.0; right = leb-true _ _ b.0; top = leb-true _ _ c.0; bottom = leb-true _ _ c.1 }

pub inside_of : {d : Size} {nx ny : ℕ} → Within d nx ny → inside d nx ny ≡ true
inside_of w = simp (le-leb _ _ w.left, le-leb _ _ w.right, le-leb _ _ w.top, le-leb _ _ w.bottom)

module _ {d : Size} {nx ny : ℕ} (h : Within d nx ny) where
  column : nx - 1 < d.width
  column = omega arith

  pub place_in_lem : place d nx ny < area d
  place_in_lem = pixel_in d (nx - 1) (ny - 1) column (omega arith)

  place_column : place d nx ny % d.width ≡ nx - 1
  place_column = column_of_lem (ny - 1) column

  place_row : place d nx ny / d.width ≡ ny - 1
  place_row = row_of_lem (ny - 1) column

-- the kth place around pixel q, its column and its row counted from one left and one above
abbrev pub col_at : Size → ℕ → ℕ → ℕ
col_at d q k = q % d.width + k % 3

abbrev pub row_at : Size → ℕ → ℕ → ℕ
row_at d q k = q / d.width + k / 3

-- where it is in the picture it touches q
pub touch_place : (d : Size) (q k : ℕ) → q < area d → k < 9 → Within d (col_at d q k) (row_at d q k) → Touch d q (place d (col_at d q k) (row_at d q k))
touch_place d q k l k9 h =
    let a = place_column h in
    let b = place_row h in
    record { from = l; to = place_in_lem h; columns = omega arith; rows = omega arith }

-- and what touches q is one of the nine
pub record Nth (d : Size) (q r : ℕ) : Type 0 where
  pub k : ℕ
  pub nine : k < 9
  pub in_picture : Within d (col_at d q k) (row_at d q k)
  pub is : place d (col_at d q k) (row_at d q k) ≡ r

pub nth : (d : Size) (q r : ℕ) → Touch d q r → Nth d q r
nth d q r t =
    let w : ℕ = d.width in
    let k : ℕ = (r / w + 1 - q / w) * 3 + (r % w + 1 - q % w) in
    let ex : q % w + k % 3 ≡ r % w + 1 = omega arith in
    let ey : q / w + k / 3 ≡ r / w + 1 = omega arith in
    let x = column_in d r t.to in
    let y = row_below d r t.to in
    record {
      k = k;
      nine = omega arith;
      in_picture = omega arith;
      is = ap₂ (λ (a b : ℕ). (a - 1) * w + (b - 1)) ey ex ∙ ap₂ (λ (a b : ℕ). a * w + b) (omega arith) (omega arith) ∙ pixel_of d r t.to;
    }
