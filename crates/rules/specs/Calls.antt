-- What each public call answers, and what it leaves in every buffer lent to it (01.Tight.1). Refused: the number, zero in every other
-- field, and each buffer as it was (01.Refusal.14). Accepted: the stage's pixels, with a work buffer's first width * height entries
-- zero (01.Refusal.15) and every entry past width * height as it was (01.Refusal.16).
use Rattle.std.specs.Prelude.{ℕ, cond, List, eqb, length, get_or, ℤ, pos, Float}
use Rattle.std.proofs.Math.Option.{Option, none}
use Rattle.rules.specs.Picture.{area, entries, by_pixel, filled, cleared}
use Rattle.rules.specs.Border.{resolved, coord_says}
use Rattle.rules.specs.Sums.{plus_zero}
use Rattle.rules.specs.Filters.{convolved_at, separable_at, both_ways, box_taps, sharpen_kernel, sharpen_weights}
use Rattle.rules.specs.Median.{median_at}
use Rattle.rules.specs.Gradient.{gx_table, gy_table, gradient_at, energy}
use Rattle.rules.specs.Root.{magnitude_of, sobel_byte}
use Rattle.rules.specs.Suppression.{suppressed_at}
use Rattle.rules.specs.Walk.{State, state, at_least, started, sliced, takes, mapped}
use Rattle.rules.specs.Refusals.{first, coord_rows, kernel_rows, separable_rows, blur_rows, box_rows, plain_rows, median_rows, gradient_rows, magnitude_rows}
use Rattle.rules.specs.Refusals.{suppression_rows, start_rows, slice_rows, map_rows}
use Rattle.rules.specs.declared.Size.{Size}
use Rattle.rules.specs.declared.Kernel.{Kernel}
use Rattle.rules.specs.declared.SeparableKernel.{SeparableKernel}
use Rattle.rules.specs.declared.BorderMode.{BorderMode}
use Rattle.rules.specs.declared.Thresholds.{Thresholds}
use Rattle.rules.specs.declared.Walk.{Walk}
use Rattle.rules.specs.Answers.{Started, Sliced, Mapped}

-- what a call leaves: by its refusal number, what acceptance gives or what was there
abbrev pub accepted {ℓ} : {A : Type ℓ} → ℕ → A → A → A
accepted number done kept = cond (eqb number 0) done kept

-- the number and what is left
abbrev pub answered {ℓ} : {A : Type ℓ} → ℕ → A → A → ℕ × A
answered number done kept = (number, accepted number done kept)

-- a buffer with a picture written over it
abbrev pub painted {ℓ} : {A : Type ℓ} → Size → (ℕ → ℕ → A) → List A → List A
painted d f old = filled (entries d) (by_pixel d f) old

-- ---- filters

-- the resolver (01.Border.1): a refusal number, and the place to read, if there is one
unfoldable pub resolve_coord : ℤ → ℕ → BorderMode → ℕ × Option ℕ
resolve_coord c side mode = accepted (first (coord_rows side)) (coord_says (resolved mode c side)) (first (coord_rows side), none)

-- convolution: the output
unfoldable pub apply_kernel : Size → Kernel → BorderMode → List ℕ → List Float → List ℕ → ℕ × List ℕ
apply_kernel d k mode pixels weights out =
    answered (first (kernel_rows d k pixels weights out)) (painted d (convolved_at d k mode pixels weights) out) out

-- separable convolution: the work buffer and the output
abbrev pub separated : Size → SeparableKernel → BorderMode → List ℕ → List Float → List Float → List Float → List ℕ → List Float × List ℕ
separated d k mode pixels horizontal vertical work out =
    (cleared (entries d) plus_zero work, painted d (separable_at d k mode pixels horizontal vertical) out)

unfoldable pub apply_separable_kernel : Size → SeparableKernel → BorderMode → List ℕ → List Float → List Float → List Float → List ℕ → ℕ × (List Float × List ℕ)
apply_separable_kernel d k mode pixels horizontal vertical work out =
    answered (first (separable_rows d k pixels horizontal vertical work out))
    (separated d k mode pixels horizontal vertical work out)
    (work, out)

-- a blur with given taps: the same both ways
unfoldable pub gaussian_blur : Size → BorderMode → List ℕ → List Float → List Float → List ℕ → ℕ × (List Float × List ℕ)
gaussian_blur d mode pixels taps work out =
    answered (first (blur_rows d pixels taps work out))
    (separated d (both_ways (length taps)) mode pixels taps taps work out)
    (work, out)

unfoldable pub box_blur : Size → BorderMode → List ℕ → List Float → List ℕ → ℕ × (List Float × List ℕ)
box_blur d mode pixels work out =
    answered (first (box_rows d pixels work out)) (separated d (both_ways 3) mode pixels box_taps box_taps work out) (work, out)

unfoldable pub sharpen : Size → BorderMode → List ℕ → List ℕ → ℕ × List ℕ
sharpen d mode pixels out =
    answered (first (plain_rows d pixels out)) (painted d (convolved_at d sharpen_kernel mode pixels sharpen_weights) out) out

unfoldable pub median : Size → ℕ → BorderMode → List ℕ → List ℕ → ℕ × List ℕ
median d window mode pixels out =
    answered (first (median_rows d window pixels out)) (painted d (median_at d window mode pixels) out) out

-- both components
unfoldable pub sobel_gradients : Size → BorderMode → List ℕ → List ℤ → List ℤ → ℕ × (List ℤ × List ℤ)
sobel_gradients d mode pixels gx gy =
    answered (first (gradient_rows d pixels gx gy))
    (painted d (gradient_at gx_table d mode pixels) gx, painted d (gradient_at gy_table d mode pixels) gy)
    (gx, gy)

-- Sobel's own bytes
unfoldable pub sobel_at : Size → BorderMode → List ℕ → ℕ → ℕ → ℕ
sobel_at d mode pixels x y = sobel_byte (energy (gradient_at gx_table d mode pixels x y) (gradient_at gy_table d mode pixels x y))

unfoldable pub sobel : Size → BorderMode → List ℕ → List ℕ → ℕ × List ℕ
sobel d mode pixels out = answered (first (plain_rows d pixels out)) (painted d (sobel_at d mode pixels) out) out

-- ---- magnitude and suppression

unfoldable pub magnitude_at : List ℤ → List ℤ → ℕ → Float
magnitude_at gx gy i = magnitude_of (energy (get_or gx i (pos 0)) (get_or gy i (pos 0)))

unfoldable pub gradient_magnitude : Size → List ℤ → List ℤ → List Float → ℕ × List Float
gradient_magnitude d gx gy magnitude =
    answered (first (magnitude_rows d gx gy magnitude)) (filled (entries d) (magnitude_at gx gy) magnitude) magnitude

unfoldable pub non_maximum_suppression : Size → List Float → List ℤ → List ℤ → List Float → ℕ × List Float
non_maximum_suppression d magnitude gx gy out =
    answered (first (suppression_rows d magnitude gx gy out)) (painted d (suppressed_at d magnitude gx gy) out) out

-- ---- the walk: the answer, then the marks and the stack

-- the state as a caller holds it
abbrev pub walk_of : Size → ℕ → Walk
walk_of d p = record { width = d.width; height = d.height; pending = p }

abbrev pub sides_of : Walk → Size
sides_of w = record { width = w.width; height = w.height }

abbrev pub lent : State → List ℕ × List ℕ
lent s = (s.marks, s.stack)

unfoldable pub after_start : Size → Thresholds → List Float → List ℕ → List ℕ → State
after_start d t magnitudes marks stack =
    started (at_least t.high magnitudes) (at_least t.low magnitudes) (area d) marks stack

-- a refused start's state is all zero
unfoldable pub start : Size → Thresholds → List Float → List ℕ → List ℕ → Started × (List ℕ × List ℕ)
start d t magnitudes marks stack =
    let number = first (start_rows d t magnitudes marks stack) in
    let s = after_start d t magnitudes marks stack in
    accepted number
    (record { refusal = number; walk = walk_of d s.pending }, lent s)
    (record { refusal = number; walk = record { width = 0; height = 0; pending = 0 } }, (marks, stack))

-- what a slice leaves: a refused one leaves the state unaltered
unfoldable pub after_slice : Size → ℕ → State → State
after_slice d budget s = accepted (first (slice_rows d budget s)) (sliced d budget s) s

unfoldable pub slice_takes : Size → ℕ → State → ℕ
slice_takes d budget s = accepted (first (slice_rows d budget s)) (takes d budget s) 0

unfoldable pub slice : Walk → ℕ → List ℕ → List ℕ → Sliced × (List ℕ × List ℕ)
slice w budget marks stack =
    let d = sides_of w in
    let s = state marks stack w.pending in
    let z = after_slice d budget s in
    (record { refusal = first (slice_rows d budget s); takes = slice_takes d budget s; walk = walk_of d z.pending }, lent z)

-- the map request leaves the walk, refused or not: only the output can change
unfoldable pub map : Walk → List ℕ → List ℕ → List ℕ → Mapped × List ℕ
map w marks stack out =
    let d = sides_of w in
    let number = first (map_rows d (state marks stack w.pending) out) in
    (record { refusal = number; walk = w }, accepted number (mapped (area d) marks out) out)
