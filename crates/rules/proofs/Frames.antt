-- A file's first 2,589 bytes decide its printout. Assumes nothing.
use mathlib.Core.Path.{◌≡◌, refl, sym, ap, ◌∙◌}
use mathlib.Core.Bool.{Bool, true, false, or-true}
use mathlib.Core.List.{List}
use Prim.Native.Nat.{ℕ, ◌<◌}
use native.Mathlib.Omega.{arith}
use lib.Dec.{ltb}
use lib.ListN.{length, take}
use lib.Seq.{take_all, length-take-le}
use borrow.Author.Tests.{lt-ltb, ltb-true, ltb-false}
use Rattle.rules.specs.Limits.{max_frame_length}
use Rattle.rules.specs.Frame.{breach, refused_text, printout, file_room, RoomDecides}

-- the layout's last test, which is that the file is not too long
too_long : (file : List ℕ) → max_frame_length < length file → breach file ≡ true
unfolding breach
too_long file h = rw (lt-ltb max_frame_length (length file) h) (simp or-true)

refused_long : (file : List ℕ) → max_frame_length < length file → printout file ≡ refused_text 11
unfolding printout
refused_long file h = rw (too_long file h)

pub room_decides : RoomDecides
room_decides file = go (ltb file_room (length file)) refl
  where
    go : (b : Bool) → ltb file_room (length file) ≡ b → printout file ≡ printout (take file_room file)
    go true e =
        let h = ltb-true file_room (length file) e in
        refused_long file (omega arith) ∙ sym (refused_long (take file_room file) (omega (arith, length-take-le file_room file (omega arith))))
    go false e = ap printout (sym (take_all file_room file (ltb-false file_room (length file) e)))
