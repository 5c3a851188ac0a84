-- A buffer filled row by row, each row lent as a part of it. Assumes nothing.
use mathlib.Core.Path.{◌≡◌, refl, ap}
use mathlib.Core.List.{List}
use Prim.Native.Nat.{ℕ, ◌+◌, ◌-◌, ◌*◌, ◌<◌, ◌≤◌}
use native.Mathlib.Nat.{add-mul, mul_comm}
use native.Mathlib.Omega.{arith}
use lib.ListN.{length}
use borrow.Rule.Slice.PartMut.{put_mid, mid_of}
use Rattle.rules.specs.Picture.{area, by_pixel, filled}
use Rattle.rules.specs.declared.Size.{Size}
use Rattle.rules.proofs.Fill.{Filling, filling_start, filling_part, filling_end}
use Rattle.rules.proofs.Grid.{row_in_lem, column_of_lem, row_of_lem, part_length}

-- THE INVARIANT of such a loop before row y, which begins at `start`; f is the rule by column and row
pub record ByRows {A : Type 0} (d : Size) (y start : ℕ) (f : ℕ → ℕ → A) (o l : List A) : Type 0 where
  pub room : area d ≤ length o
  pub count : y ≤ d.height
  pub begins : start ≡ y * d.width
  pub filling : Filling (area d) start (by_pixel d f) o l

module _ {A : Type 0} {d : Size} {f : ℕ → ℕ → A} {o : List A} where
  pub by_rows_start : area d ≤ length o → ByRows d 0 0 f o o
  by_rows_start h = record { room = h; count = omega arith; begins = omega arith; filling = filling_start }

  module _ {y start : ℕ} {l : List A} (p : ByRows d y start f o l) where
    -- the row ends within the picture, and the picture within the buffer
    pub row_fits : y < d.height → (start + d.width ≤ area d) × (area d ≤ length l)
    row_fits h = (omega (arith, p.begins, row_in_lem y d.width d.height h), omega (arith, p.filling.same, p.room))

    -- the part that is lent is as long as a row
    pub row_long : y < d.height → length (mid_of start (start + d.width - start) l) ≡ d.width
    row_long h = part_length l start (start + d.width) d.width refl (omega (arith, row_fits h))

    pub by_rows_more : {part : List A} → y < d.height → part ≡ filled d.width (λ x. f x y) (mid_of start (start + d.width - start) l)
        → ByRows d (y + 1) (start + d.width) f o (put_mid start (start + d.width - start) l part)
    by_rows_more h q =
        record {
          room = p.room;
          count = omega arith;
          begins = omega (arith, p.begins, add-mul y 1 d.width);
          filling = filling_part p.room (row_fits h).0 p.filling q (λ x k. rw (p.begins, column_of_lem y k, row_of_lem y k));
        }

    pub by_rows_all : d.height ≤ y → l ≡ filled (area d) (by_pixel d f) o
    by_rows_all h =
        let e : y ≡ d.height = omega (arith, p.count) in
        filling_end p.filling (omega (arith, p.begins, ap (λ (n : ℕ). n * d.width) e, mul_comm d.height d.width))
