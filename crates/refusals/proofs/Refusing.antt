-- Calls that test their picture first: what the number of `of_picture` says of the whole table, and of the picture. Assumes nothing.
use mathlib.Core.Path.{◌≡◌, sym, ◌∙◌}
use mathlib.Core.Bool.{true, false}
use mathlib.Core.List.{List, ◌∷◌}
use Prim.Native.Nat.{ℕ, ◌<◌, ◌≤◌}
use native.Mathlib.Omega.{arith}
use borrow.Author.Tests.{lt-ltb, le-ltb}
use lib.ListN.{length}
use Rattle.rules.specs.Picture.{area}
use Rattle.rules.specs.Refusals.{Rule, first, side_row, input_row, room_row}
use Rattle.rules.specs.Calls.{answered}
use Rattle.rules.specs.declared.Size.{Size}
use Rattle.rules.proofs.Answers.{refused_is}
use Rattle.rules.proofs.Rows.{off, front_refuses, side_off, input_off}
use Rattle.refusals.specs.Rows.{Picture, picture_rows}

-- a picture that neither of its rows refuses
pub record Passed (d : Size) (pixels : List ℕ) : Type 0 where
  pub side : (side_row d).applies ≡ false
  pub input : (input_row d pixels).applies ≡ false
  pub picture : Picture d pixels

-- the number that `of_picture` gave
module _ (d : Size) (pixels : List ℕ) (r : ℕ) (e : r ≡ first (picture_rows d pixels)) where
  -- one of its rows applies, whatever rows follow
  pub early : (rest : List Rule) → (r ≡ 0 → ⊥) → r ≡ first (side_row d ∷ input_row d pixels ∷ rest)
  early rest n = front_refuses (picture_rows d pixels) rest e n

  pub early_is : {A : Type 0} (rest : List Rule) (done kept : A) → (r ≡ 0 → ⊥) → (r, kept) ≡ answered (first (side_row d ∷ input_row d pixels ∷ rest)) done kept
  early_is rest done kept n = refused_is _ r (early rest n) done kept n

  -- neither does
  pub passed : r ≡ 0 → Passed d pixels
  passed z =
      let o = off (picture_rows d pixels) tt (sym e ∙ z) in
      record {
        side = o.0;
        input = o.1.0;
        picture = record { sides = side_off d o.0; long = input_off d pixels o.1.0 };
      }

-- room is tested against the picture's own length
module _ (d : Size) (pixels : List ℕ) (p : Passed d pixels) {A : Type 0} (out : List A) where
  pub no_room : length out < length pixels → (room_row d out).applies ≡ true
  no_room h = lt-ltb (length out) (area d) (omega (arith, p.picture.long))

  pub has_room : length pixels ≤ length out → (room_row d out).applies ≡ false
  has_room h = le-ltb (length out) (area d) (omega (arith, p.picture.long))
