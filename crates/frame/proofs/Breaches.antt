-- What a file that passes the layout's test is known to have, and what a NaN's pattern stands for. Assumes nothing.
use mathlib.Core.Path.{◌≡◌, sym, ◌∙◌}
use mathlib.Core.Bool.{false, not}
use mathlib.Core.List.{List}
use Prim.Native.Nat.{ℕ, ◌+◌, ◌*◌, ◌≤◌}
use native.Mathlib.Nat.{mul-le-mul}
use lib.Dec.{eqb}
use lib.ListN.{length}
use borrow.Author.Tests.{ltb-false, eqb-true, not-false}
use Rattle.rules.specs.Limits.{max_frame_side, max_frame_length}
use Rattle.rules.specs.Picture.{area}
use Rattle.rules.specs.Frame.{breach, frame_size, tap_count, taps_offset, pixel_offset, length_word, header_length}
use Rattle.rules.proofs.Bools.{neither}

-- what the layout grants
pub record Laid (file : List ℕ) : Type 0 where
  pub header : header_length ≤ length file
  pub width : (frame_size file).width ≤ max_frame_side
  pub height : (frame_size file).height ≤ max_frame_side
  pub offset : pixel_offset file ≡ header_length + 4 * tap_count file
  pub whole : length file ≡ pixel_offset file + area (frame_size file)
  pub few : length file ≤ max_frame_length
  pub small : area (frame_size file) ≤ max_frame_side * max_frame_side

pub laid : (file : List ℕ) → breach file ≡ false → Laid file
unfolding breach
laid file e =
    let a = neither _ _ e in
    let b = neither _ _ a.1 in
    let c = neither _ _ b.1 in
    let d = neither (not (eqb (taps_offset file) header_length)) _ c.1 in
    let f = neither _ _ d.1 in
    let g = neither _ _ f.1 in
    let k = neither _ _ g.1 in
    let w = ltb-false max_frame_side (frame_size file).width b.0 in
    let h = ltb-false max_frame_side (frame_size file).height c.0 in
    record {
      header = ltb-false (length file) header_length a.0;
      width = w;
      height = h;
      offset = eqb-true (pixel_offset file) (header_length + 4 * tap_count file) (not-false _ f.0);
      whole = sym (eqb-true (length_word file) (length file) (not-false _ k.0)) ∙ eqb-true (length_word file) _ (not-false _ g.0);
      few = ltb-false max_frame_length (length file) k.1;
      small = mul-le-mul w h;
    }
