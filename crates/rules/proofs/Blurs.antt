-- The named filters are the general calls at their own taps and weights: their tables of refusals say the same. Assumes nothing.
use mathlib.Core.Path.{◌≡◌, refl, ap, ◌∙◌}
use mathlib.Core.Bool.{Bool, true, false, not, cond}
use mathlib.Core.List.{List}
use Prim.Native.Nat.{ℕ}
use lib.ListN.{length}
use lib.Ieee.{Float, of_bits, of_int}
use borrow.Author.Tests.{eq-eqb}
use Rattle.rules.specs.Limits.{max_taps}
use Rattle.rules.specs.Picture.{any_below}
use Rattle.rules.specs.Filters.{both_ways, box_taps, sharpen_kernel, sharpen_weights}
use Rattle.rules.specs.Refusals.{first, side_row, input_row, count_row, match_row, weight_row, room_row, separable_rows, blur_rows}
use Rattle.rules.specs.Calls.{answered, separated, apply_kernel, apply_separable_kernel, gaussian_blur, box_blur, sharpen}
use Rattle.rules.specs.declared.Size.{Size}
use Rattle.rules.specs.declared.BorderMode.{BorderMode}

-- a row that stands twice, and two rows that never apply
twice : (b : Bool) (n rest : ℕ) → cond b n (cond b n rest) ≡ cond b n rest
twice true n rest = refl
twice false n rest = refl

never : (b : Bool) (n rest : ℕ) → b ≡ false → cond b n (cond b n rest) ≡ rest
never b n rest e = rw e

-- the same taps both ways are tested once
blur_number : (d : Size) (pixels : List ℕ) (taps work : List Float) (out : List ℕ)
    → first (separable_rows d (both_ways (length taps)) pixels taps taps work out) ≡ first (blur_rows d pixels taps work out)
blur_number d pixels taps work out =
    let room : ℕ = cond (room_row d work).applies 7 (cond (room_row d out).applies 7 0) in
    let weights = (weight_row taps).applies in
    let counts = (count_row max_taps (length taps)).applies in
    let same : (match_row (length taps) taps).applies ≡ false = ap not (eq-eqb (length taps) (length taps) refl) in
    ap (λ (n : ℕ). cond (side_row d).applies 1 (cond (input_row d pixels).applies 2 n))
    (twice counts 3 _ ∙ ap (λ (n : ℕ). cond counts 3 n) (never (match_row (length taps) taps).applies 3 _ same ∙ twice weights 4 room))

pub blur_is : (d : Size) (mode : BorderMode) (pixels : List ℕ) (taps work : List Float) (out : List ℕ)
    → apply_separable_kernel d (both_ways (length taps)) mode pixels taps taps work out ≡ gaussian_blur d mode pixels taps work out
unfolding apply_separable_kernel gaussian_blur
blur_is d mode pixels taps work out =
    ap (λ (n : ℕ). answered n (separated d (both_ways (length taps)) mode pixels taps taps work out) (work, out)) (blur_number d pixels taps work out)

-- the box's taps and the sharpening weights are finite and as many as they should be: computed
pub box_is : (d : Size) (mode : BorderMode) (pixels : List ℕ) (work : List Float) (out : List ℕ)
    → gaussian_blur d mode pixels box_taps work out ≡ box_blur d mode pixels work out
unfolding gaussian_blur box_blur any_below of_bits
box_is d mode pixels work out = refl

pub sharpen_is : (d : Size) (mode : BorderMode) (pixels out : List ℕ) → apply_kernel d sharpen_kernel mode pixels sharpen_weights out ≡ sharpen d mode pixels out
unfolding apply_kernel sharpen any_below of_int
sharpen_is d mode pixels out = refl
