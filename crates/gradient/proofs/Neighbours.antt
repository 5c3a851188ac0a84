-- Neighbours: the two of 01's table lie opposite, so that the offset of the first tells where both are read. Assumes nothing.
use mathlib.Core.Path.{◌≡◌, refl, ap, ◌∙◌}
use mathlib.Core.Bool.{Bool, true, false, cond, and-true}
use mathlib.Core.List.{List}
use Prim.Native.Nat.{ℕ, ◌+◌, ◌-◌, ◌*◌, ◌<◌, ◌≤◌}
use native.Mathlib.Nat.{add-mul}
use native.Mathlib.Omega.{arith}
use lib.Dec.{ltb, eqb}
use lib.ListN.{length, get_or}
use lib.IntN.{ℤ, pos, negsuc, nat_abs, ◌+ℤ◌}
use lib.Ieee.{Float, nan}
use mir.Syntax.{w16}
use mir.Val.{SFits, to_z, of_z}
use mir.ValLaws.{to_z-of_z}
use borrow.Author.Tests.{ltb-true, lt-ltb}
use borrow.Rule.Slice.PartMut.{put_mid, mid_of}
use Rattle.rules.specs.Picture.{area, by_pixel, filled, cleared}
use Rattle.rules.specs.Sums.{plus_zero}
use Rattle.rules.specs.Sector.{Offset, offset, sector_of, neighbours}
use Rattle.rules.specs.Suppression.{inner, floats, keeps, suppressed_by, suppressed_at}
use Rattle.rules.specs.declared.Size.{Size}
use Rattle.rules.proofs.Bools.{both}
use Rattle.rules.proofs.Fill.{Filling, filling_part, recount}
use Rattle.rules.proofs.Grid.{row_in_lem, row_of_lem, column_of_lem}
use Rattle.rules.proofs.Border.{diff}
use Rattle.pixel.proofs.Sectors.{is_false}
use Rattle.gradient.specs.Lent.{Pictures, InnerRow}
use Rattle.gradient.specs.Beside.{at_offset, first_at, second_at, kept_at, row_at}

-- one back from n
back : (n : ℕ) → 0 < n → nat_abs (pos n +ℤ negsuc 0) ≡ n - 1
back n h = ap nat_abs (diff n 1 h)

-- where the row before row y begins
row_before : (y w : ℕ) → 0 < y → (y - 1) * w + w ≡ y * w
row_before y w h = let e : y - 1 + 1 ≡ y = omega arith in omega (arith, ap (λ (n : ℕ). n * w) e, add-mul (y - 1) 1 w)

-- ---- the table's rows

module _ (P : Offset × Offset → Type 0)
    (p0 : P (offset (negsuc 0) (pos 0), offset (pos 1) (pos 0)))
    (p45 : P (offset (negsuc 0) (negsuc 0), offset (pos 1) (pos 1)))
    (p90 : P (offset (pos 0) (negsuc 0), offset (pos 0) (pos 1)))
    (p135 : P (offset (pos 1) (negsuc 0), offset (negsuc 0) (pos 1))) where
  pick : (b : Bool) (x y : Offset × Offset) → P x → P y → P (cond b x y)
  pick true x y p q = p
  pick false x y p q = q

  rows : (sector : ℕ) → P (neighbours sector)
  unfolding neighbours
  rows s = pick (eqb s 0) _ _ p0 (pick (eqb s 45) _ _ p45 (pick (eqb s 90) _ _ p90 p135))

-- where a neighbour of (x, y) stands, at width w
abbrev place : ℕ → ℕ → ℕ → Offset → ℕ
place w x y o = nat_abs (pos y +ℤ o.dy) * w + nat_abs (pos x +ℤ o.dx)

-- both neighbours are read where the first one's offset says
record Opposite (m : List Float) (w x y : ℕ) (n : Offset × Offset) : Type 0 where
  first : get_or m (place w x y n.0) nan ≡ first_at w m (y * w + x) n.0
  second : get_or m (place w x y n.1) nan ≡ second_at w m (y * w + x) n.0

read_at : (m : List Float) {a b : ℕ} → a ≡ b → get_or m a nan ≡ get_or m b nan
read_at m = ap (λ (n : ℕ). get_or m n nan)

opposite : (m : List Float) (w x y : ℕ) → 0 < w → 0 < x → 0 < y → (sector : ℕ) → Opposite m w x y (neighbours sector)
unfolding at_offset
opposite m w x y l h k =
    let up = row_before y w k in
    let down = add-mul y 1 w in
    rows (Opposite m w x y)
    (record { first = read_at m (simp (back x h) (omega arith)); second = read_at m (omega arith) })
    (record { first = read_at m (simp (back x h, back y k) (omega arith)); second = read_at m (omega arith) })
    (record { first = read_at m (simp (back y k) (omega arith)); second = read_at m (omega arith) })
    (record { first = read_at m (simp (back y k) (omega arith)); second = read_at m (simp (back x h) (omega arith)) })

-- what the code does at pixel i, whose components go by their bits: the offset of its first neighbour, and the two magnitudes that it chooses
pub kept_is : (w : ℕ) (m : List Float) (gx gy : List ℤ) (i : ℕ) {sector : ℕ} {o : Offset} {a b r : Float}
    → SFits w16 (get_or gx i (pos 0)) → SFits w16 (get_or gy i (pos 0))
    → sector ≡ sector_of (to_z w16 (of_z w16 (get_or gx i (pos 0)))) (to_z w16 (of_z w16 (get_or gy i (pos 0)))) → o ≡ (neighbours sector).0
    → a ≡ first_at w m i o → b ≡ second_at w m i o
    → r ≡ cond (keeps floats (get_or m i nan) a b) (get_or m i nan) plus_zero → r ≡ kept_at w m gx gy i
unfolding kept_at
kept_is w m gx gy i {sector} f g e s p q k =
    let c : sector ≡ sector_of (get_or gx i (pos 0)) (get_or gy i (pos 0)) = rw (to_z-of_z w16 _ f, to_z-of_z w16 _ g) at e in
    k ∙ rw (p, q, s, c)

-- ---- a pixel

pub record InnerPixel (d : Size) (x y : ℕ) : Type 0 where
  pub right : 0 < x
  pub left : x + 1 < d.width
  pub down : 0 < y
  pub up : y + 1 < d.height

inner_says : (d : Size) (x y : ℕ) → inner d x y ≡ true → InnerPixel d x y
inner_says d x y e =
    let a = both (ltb 0 x) _ e in
    let b = both (ltb (x + 1) d.width) _ a.1 in
    let c = both (ltb 0 y) _ b.1 in
    record { right = ltb-true _ _ a.0; left = ltb-true _ _ b.0; down = ltb-true _ _ c.0; up = ltb-true _ _ c.1 }

module _ (d : Size) (m : List Float) (gx gy : List ℤ) (x y : ℕ) where
  -- an inner pixel is kept by its two neighbours, an outer one is +0
  pixel_is : suppressed_at d m gx gy x y ≡ cond (inner d x y) (kept_at d.width m gx gy (y * d.width + x)) plus_zero
  unfolding kept_at suppressed_at suppressed_by
  pixel_is = go (inner d x y) refl
    where
      go : (b : Bool) → inner d x y ≡ b → suppressed_at d m gx gy x y ≡ cond b (kept_at d.width m gx gy (y * d.width + x)) plus_zero
      go true e =
          let i = inner_says d x y e in
          let p = y * d.width + x in
          let o = opposite m d.width x y (omega arith) i.right i.down (sector_of (get_or gx p (pos 0)) (get_or gy p (pos 0))) in
          rw (e, o.first, o.second)
      go false e = rw e

  outer_is : (InnerPixel d x y → ⊥) → plus_zero ≡ suppressed_at d m gx gy x y
  outer_is off = rw (pixel_is, is_false (inner d x y) (λ e. off (inner_says d x y e)))

  -- in an inner row the column decides
  row_is : (start : ℕ) → start ≡ y * d.width → 0 < y → y + 1 < d.height → row_at d.width m gx gy start x ≡ suppressed_at d m gx gy x y
  unfolding row_at
  row_is start e k u = rw (e, pixel_is, lt-ltb 0 y k, lt-ltb (y + 1) d.height u, and-true)

-- ---- the parts of a picture, from what the code leaves of them

module _ (d : Size) (m : List Float) (gx gy : List ℤ) where
  -- entries that are all of outer pixels, cleared
  pub outer_are : (x y : ℕ → ℕ) (k n : ℕ) (o : List Float) {r : List Float} → n ≡ k → ((i : ℕ) → i < k → InnerPixel d (x i) (y i) → ⊥) → r ≡ cleared n plus_zero o
      → r ≡ filled k (λ i. suppressed_at d m gx gy (x i) (y i)) o
  outer_are x y k n o e off p = recount k _ _ o _ (rw e at p) (λ i h. outer_is d m gx gy (x i) (y i) (off i h))

  -- row y, which begins at `start`
  module _ (y start : ℕ) (b : start ≡ y * d.width) where
    pub inner_row : (n : ℕ) (o : List Float) {r : List Float} → n ≡ d.width → 0 < y → y + 1 < d.height → r ≡ filled n (row_at n m gx gy start) o
        → r ≡ filled d.width (λ x. suppressed_at d m gx gy x y) o
    inner_row n o e k u p = recount d.width _ _ o _ (rw e at p) (λ x h. row_is d m gx gy x y start b k u)

    -- as a part of the picture
    pub put_row : {o l part : List Float} → y < d.height → area d ≤ length o → Filling (area d) start (by_pixel d (suppressed_at d m gx gy)) o l
        → part ≡ filled d.width (λ x. suppressed_at d m gx gy x y) (mid_of start (start + d.width - start) l)
        → Filling (area d) (start + d.width) (by_pixel d (suppressed_at d m gx gy)) o (put_mid start (start + d.width - start) l part)
    put_row k h p t = filling_part h (omega (arith, row_in_lem y d.width d.height k)) p t (λ x c. rw (b, column_of_lem y c, row_of_lem y c))

-- an inner row has a row before it and one after it
pub has_rows : {d : Size} {m : List Float} {gx gy : List ℤ} (y : ℕ) {start n : ℕ} → Pictures d m gx gy → start ≡ y * d.width → n ≡ d.width
    → 0 < y → y + 1 < d.height → 3 ≤ d.width → InnerRow m gx gy start n
has_rows {d} y p b e k u l =
    record {
      least = omega arith;
      most = omega (arith, p.width);
      before = omega (arith, row_before y d.width k);
      after = omega (arith, row_in_lem (y + 1) d.width d.height u, add-mul y 1 d.width, p.long);
      long_x = omega (arith, p.long, p.long_x);
      long_y = omega (arith, p.long, p.long_y);
    }
