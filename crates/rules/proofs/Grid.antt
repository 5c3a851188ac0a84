-- Row-and-column arithmetic: the index of a pixel, the part of a picture that is a row. Assumes nothing.
use mathlib.Core.Path.{◌≡◌, ◌∙◌}
use mathlib.Core.List.{List}
use Prim.Native.Nat.{ℕ, ◌+◌, ◌-◌, ◌*◌, ◌/◌, ◌%◌, ◌<◌, ◌≤◌}
use native.Mathlib.Nat.{mul-le-mul_right, mul_comm, add-mul, div-lt_iff_lt-mul, div-add-mod', mod-lt}
use native.Mathlib.Omega.{arith}
use lib.Arith.{digits_div, digits_mod}
use lib.ListN.{length, get_or, take, drop, length-take, length-drop}
use lib.Seq.{get_or-take, get_or-drop}
use Rattle.rules.specs.Picture.{area}
use Rattle.rules.specs.declared.Size.{Size}

-- row y ends within the picture
pub row_in_lem : (y w h : ℕ) → y < h → y * w + w ≤ w * h
row_in_lem y w h p = let q : y + 1 ≤ h = omega arith in omega (arith, mul-le-mul_right w q, add-mul y 1 w, mul_comm h w)

-- the pixel in column x and row y is in the picture
pub pixel_in : (d : Size) (x y : ℕ) → x < d.width → y < d.height → y * d.width + x < area d
pixel_in d x y p q = omega (arith, row_in_lem y d.width d.height q)

-- and its column and row are x and y again
pub column_of_lem : (y : ℕ) {w x : ℕ} → x < w → (y * w + x) % w ≡ x
column_of_lem y h = digits_mod y h

pub row_of_lem : (y : ℕ) {w x : ℕ} → x < w → (y * w + x) / w ≡ y
row_of_lem y h = digits_div y h

-- an index of the picture has a column and a row, and is their pixel's
pub wide : (w h i : ℕ) → i < w * h → 0 < w
wide w h i p = go w p
  where
    go : (w : ℕ) → i < w * h → 0 < w
    go ℕ.zero q = absurd (omega (arith, native.Mathlib.Nat.zero-mul h))
    go (ℕ.suc w) q = omega arith

module _ (d : Size) (i : ℕ) (l : i < area d) where
  pub column_in : i % d.width < d.width
  column_in = mod-lt i (wide d.width d.height i l)

  pub row_below : i / d.width < d.height
  row_below = (div-lt_iff_lt-mul (wide d.width d.height i l)).1 (omega (arith, mul_comm d.width d.height))

  pub pixel_of : i / d.width * d.width + i % d.width ≡ i
  pixel_of = div-add-mod' i d.width

-- ---- a part of a list, as the code lends it: from a, w long

module _ {A : Type 0} (l : List A) (a e w : ℕ) (p : e ≡ a + w) where
  pub part_length : e ≤ length l → length (take (e - a) (drop a l)) ≡ w
  part_length h = simp (length-take, length-drop) (omega arith)

  pub part_at : (x : ℕ) (z : A) → x < w → get_or (take (e - a) (drop a l)) x z ≡ get_or l (a + x) z
  part_at x z h = get_or-take (e - a) (drop a l) x z (omega arith) ∙ get_or-drop a l x z
