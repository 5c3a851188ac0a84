-- Examples that the checker computes: 01's starred ones, as one list and one statement about it (01.Proved.1 to 01.Proved.14), and a list of
-- `slips`, inputs at which a definition that is wrong in one place gives another answer than 01's.
use Rattle.std.specs.Prelude.{ℕ, zero, suc, ◌+◌, ◌-◌, ◌*◌, ◌/◌, ◌%◌, ◌≡◌, Bool, false, cond, Ok, Err, ◌||◌, List, [], ◌∷◌, ◌++◌, map, eqb, length, get_or, set, drop, ℤ, pos, negsuc, Float}
use Rattle.std.proofs.Math.Option.{Option, some, none}
use Rattle.std.specs.Float.{nan, inf, fin, binary32}
use Rattle.std.specs.Float.Ieee.{up, down, of_bits, to_bits}
use Rattle.rules.specs.Limits.{max_taps, max_kernel, max_window}
use Rattle.rules.specs.Picture.{area, in_row_order, tabulate, zeros, bit}
use Rattle.rules.specs.Border.{mode_of}
use Rattle.rules.specs.Sums.{plus_zero, whole_f32, to_byte}
use Rattle.rules.specs.Filters.{convolved_at, separable_at}
use Rattle.rules.specs.Median.{occurrences, default_window}
use Rattle.rules.specs.Root.{magnitude_of, sobel_byte}
use Rattle.rules.specs.Sector.{sector_of, neighbours}
use Rattle.rules.specs.Suppression.{Table}
use Rattle.rules.specs.Walk.{state, at_least, unusable}
use Rattle.rules.specs.Refusals.{Rule, first, Scratch, side_row, one_side_row, count_row, weight_row, threshold_row, order_row}
use Rattle.rules.specs.Refusals.{kernel_rows, separable_rows, blur_rows, box_rows, plain_rows, median_rows, gradient_rows, magnitude_rows}
use Rattle.rules.specs.Refusals.{suppression_rows, start_rows, slice_rows, map_rows, run_rows}
use Rattle.rules.specs.Calls as Calls
use Rattle.rules.specs.Calls.{resolve_coord, after_start, apply_kernel, apply_separable_kernel, gaussian_blur, box_blur, sharpen, median, sobel_gradients}
use Rattle.rules.specs.Calls.{sobel_at, sobel, magnitude_at, gradient_magnitude, non_maximum_suppression, after_slice, slice_takes}
use Rattle.rules.specs.Joined.{joined_count}
use Rattle.rules.specs.Run.{edges_of, canny}
use Rattle.rules.specs.Diagonals.{vendor_neighbours, any_diagonal, any_diagonal_in}
use Rattle.rules.specs.Frame.{breach, decimal, printout}
use Rattle.rules.specs.declared.Size.{Size}
use Rattle.rules.specs.declared.Kernel.{Kernel}
use Rattle.rules.specs.declared.SeparableKernel.{SeparableKernel}
use Rattle.rules.specs.declared.Thresholds.{Thresholds}
use Rattle.rules.specs.declared.Walk.{Walk}
use Rattle.rules.specs.declared.refusal.Refusal.TheVariants.{Side, Input, Count, Weight, Threshold, Order, Room, Budget, State, Pending, Layout}
use Rattle.rules.specs.Answers.{Started, Sliced, Mapped, Counted, number_of, number, start_answer, slice_answer, map_answer, run_answer}
use Rattle.rules.specs.declared.BorderMode.{BorderMode}
use Rattle.rules.specs.declared.BorderMode.TheVariants.{Zero, Clamp, Mirror}

-- an example: what the definitions give, and what 01 says
pub record Example : Type 0 where
  pub got : List ℕ
  pub wanted : List ℕ

abbrev ex : List ℕ → List ℕ → Example
ex g w = record { got = g; wanted = w }

-- each of a list gives what 01 says
abbrev pub Hold : List Example → Type 0
Hold l = map (λ e. e.got) l ≡ map (λ e. e.wanted) l

-- ---- how an example is given, and how an answer is shown

-- the sides of a picture, of a kernel, and of a separable one
abbrev sides : ℕ → ℕ → Size
sides w h = record { width = w; height = h }

abbrev weighed : ℕ → ℕ → Kernel
weighed w h = record { width = w; height = h }

abbrev tapped : ℕ → ℕ → SeparableKernel
tapped w h = record { horizontal = w; vertical = h }

-- floats that are whole numbers, and by their patterns
abbrev wholes : List ℕ → List Float
wholes l = map (λ (n : ℕ). whole_f32 (pos n)) l

abbrev floats : List ℕ → List Float
floats l = map (λ (b : ℕ). of_bits binary32 b) l

abbrev patterns : List Float → List ℕ
patterns l = map (λ (x : Float). to_bits binary32 x) l

-- thresholds that are whole numbers, and by their patterns
abbrev between : ℕ → ℕ → Thresholds
between low high = record { low = whole_f32 (pos low); high = whole_f32 (pos high) }

abbrev thresholds : ℕ → ℕ → Thresholds
thresholds low high = record { low = of_bits binary32 low; high = of_bits binary32 high }

-- signed numbers as their sixteen bits
abbrev word : ℤ → ℕ
word (pos n) = n
word (negsuc n) = 65535 - n

abbrev words : List ℤ → List ℕ
words l = map word l

-- what a buffer holds before a call: n entries that no other buffer of the call has
abbrev from : ℕ → ℕ → List ℕ
from a n = tabulate n (λ i. a + i)

abbrev from_f : ℕ → ℕ → List Float
from_f a n = wholes (from a n)

abbrev from_z : ℕ → ℕ → List ℤ
from_z a n = tabulate n (λ i. pos (a + i))

-- the refusal number, and the place where there is one
abbrev numbers : ℕ → Option ℕ → List ℕ
numbers n (some i) = n ∷ i ∷ []
numbers n none = n ∷ []

abbrev places : BorderMode → ℕ → ℤ → List ℕ
places mode side c = let a = resolve_coord c side mode in numbers a.0 a.1

-- a float's exact value: its sign, and a fraction
abbrev fraction : Float → List ℕ
fraction nan = []
fraction (inf s) = []
fraction (fin s m e) = bit s ∷ m * up e ∷ down e ∷ []

-- a number and a buffer, two buffers, or the answers of a walk
abbrev shown : ℕ × List ℕ → List ℕ
shown a = a.0 ∷ a.1

abbrev shown_blur : ℕ × (List Float × List ℕ) → List ℕ
shown_blur a = a.0 ∷ (patterns a.1.0 ++ a.1.1)

abbrev shown_pair : ℕ × (List ℤ × List ℤ) → List ℕ
shown_pair a = a.0 ∷ (words a.1.0 ++ words a.1.1)

abbrev shown_floats : ℕ × List Float → List ℕ
shown_floats a = a.0 ∷ patterns a.1

abbrev held : Walk → List ℕ
held w = w.width ∷ w.height ∷ w.pending ∷ []

abbrev shown_start : Started × (List ℕ × List ℕ) → List ℕ
shown_start a = a.0.refusal ∷ (held a.0.walk ++ (a.1.0 ++ a.1.1))

abbrev shown_slice : Sliced × (List ℕ × List ℕ) → List ℕ
shown_slice a = a.0.refusal ∷ a.0.takes ∷ (held a.0.walk ++ (a.1.0 ++ a.1.1))

abbrev shown_map : Mapped × List ℕ → List ℕ
shown_map a = a.0.refusal ∷ (held a.0.walk ++ a.1)

-- ---- the starred list

-- the row 10 20 30 under horizontal taps 1 0 0 and the vertical tap 1
abbrev row : BorderMode → List ℕ
row mode =
    in_row_order (sides 3 1) (separable_at (sides 3 1) (tapped 3 1) mode (10 ∷ 20 ∷ 30 ∷ []) (wholes (1 ∷ 0 ∷ 0 ∷ [])) (wholes (1 ∷ [])))

-- the walk over rows 120 60 0 / 0 0 60 / 60 0 0: N by paths, and the map
abbrev nine : Size
nine = sides 3 3

abbrev magnitudes : List Float
magnitudes = wholes (120 ∷ 60 ∷ 0 ∷ 0 ∷ 0 ∷ 60 ∷ 60 ∷ 0 ∷ 0 ∷ [])

abbrev reached : Thresholds → ℕ
reached t = joined_count nine (at_least t.high magnitudes) (at_least t.low magnitudes)

-- THE STARRED LIST
unfoldable pub starred : List Example
starred =
    ex (places Mirror 3 (negsuc 0)) (0 ∷ 1 ∷ [])
    ∷ ex (places Mirror 3 (negsuc 4)) (0 ∷ 1 ∷ [])
    ∷ ex (places Mirror 3 (pos 3)) (0 ∷ 1 ∷ [])
    ∷ ex (places Mirror 3 (pos 4)) (0 ∷ 0 ∷ [])
    ∷ ex (places Mirror 1 (pos 7)) (0 ∷ 0 ∷ [])
    ∷ ex (row Clamp) (20 ∷ 30 ∷ 30 ∷ [])
    ∷ ex (row Mirror) (20 ∷ 30 ∷ 20 ∷ [])
    ∷ ex (row Zero) (20 ∷ 30 ∷ 0 ∷ [])
    ∷ ex (fraction (magnitude_of 2)) (0 ∷ 11863283 ∷ 8388608 ∷ [])
    ∷ ex (fraction (magnitude_of 65025)) (0 ∷ 255 ∷ 1 ∷ [])
    ∷ ex (sobel_byte 2 ∷ sobel_byte 3 ∷ []) (1 ∷ 2 ∷ [])
    ∷ ex (sector_of (pos 17) (pos 7) ∷ sector_of (pos 7) (pos 3) ∷ sector_of (pos 7) (negsuc 2) ∷ []) (0 ∷ 45 ∷ 135 ∷ [])
    ∷ ex (reached (between 50 100) ∷ []) (3 ∷ [])
    ∷ ex (edges_of nine (between 50 100) magnitudes) (255 ∷ 255 ∷ 0 ∷ 0 ∷ 0 ∷ 255 ∷ 0 ∷ 0 ∷ 0 ∷ [])
    ∷ ex (reached (between 0 0) ∷ []) (9 ∷ [])
    ∷ ex (edges_of nine (between 0 0) magnitudes) (255 ∷ 255 ∷ 255 ∷ 255 ∷ 255 ∷ 255 ∷ 255 ∷ 255 ∷ 255 ∷ [])
    ∷ []

-- ---- slips of the border, of sums and of bytes (01.Slips.1, 01.Slips.3)

-- each border at and about both sides; a side of 2; sides of 0 and at the limit; modes by number
abbrev pub borders : List Example
borders =
    ex (places Zero 3 (negsuc 0) ++ (places Zero 3 (pos 0) ++ (places Zero 3 (pos 2) ++ places Zero 3 (pos 3)))) (0 ∷ 0 ∷ 0 ∷ 0 ∷ 2 ∷ 0 ∷ [])
    ∷ ex (places Clamp 3 (negsuc 1) ++ (places Clamp 3 (pos 0) ++ (places Clamp 3 (pos 1) ++ (places Clamp 3 (pos 2) ++ places Clamp 3 (pos 5)))))
    (0 ∷ 0 ∷ 0 ∷ 0 ∷ 0 ∷ 1 ∷ 0 ∷ 2 ∷ 0 ∷ 2 ∷ [])
    ∷ ex (places Mirror 4 (negsuc 0) ++ (places Mirror 4 (negsuc 3) ++ (places Mirror 4 (negsuc 5) ++ places Mirror 4 (negsuc 6)))) (0 ∷ 1 ∷ 0 ∷ 2 ∷ 0 ∷ 0 ∷ 0 ∷ 1 ∷ [])
    ∷ ex (places Mirror 4 (pos 3) ++ (places Mirror 4 (pos 4) ++ (places Mirror 4 (pos 6) ++ places Mirror 4 (pos 7)))) (0 ∷ 3 ∷ 0 ∷ 2 ∷ 0 ∷ 0 ∷ 0 ∷ 1 ∷ [])
    ∷ ex (places Mirror 2 (negsuc 0) ++ (places Mirror 2 (pos 2) ++ places Mirror 1 (negsuc 0))) (0 ∷ 1 ∷ 0 ∷ 0 ∷ 0 ∷ 0 ∷ [])
    ∷ ex (places Clamp 0 (pos 0) ++ (places Clamp 640 (pos 640) ++ places Clamp 641 (pos 0))) (1 ∷ 0 ∷ 639 ∷ 1 ∷ [])
    ∷ ex (places (mode_of 0) 3 (pos 3) ++ (places (mode_of 1) 3 (pos 3) ++ (places (mode_of 2) 3 (pos 3) ++ places (mode_of 3) 3 (pos 3)))) (0 ∷ 0 ∷ 2 ∷ 0 ∷ 1 ∷ 0 ∷ 1 ∷ [])
    ∷ []

-- one pixel of 1 under Clamp, with weights that are flipped before they are met
abbrev lone : ℕ → ℕ → List ℤ → List ℕ
lone w h weights = in_row_order (sides 1 1) (convolved_at (sides 1 1) (weighed w h) Clamp (1 ∷ []) (map whole_f32 weights))

-- a column of 10, 20, 30 under a column of weights 1, 0, 0
abbrev upwards : List ℕ
upwards = in_row_order (sides 1 3) (convolved_at (sides 1 3) (weighed 1 3) Clamp (10 ∷ 20 ∷ 30 ∷ []) (wholes (1 ∷ 0 ∷ 0 ∷ [])))

-- a byte of 1 under a tap of 1/2 across and of 3/4 down
abbrev unrounded : List ℕ
unrounded =
    in_row_order (sides 1 1) (separable_at (sides 1 1) (tapped 1 1) Clamp (1 ∷ []) (floats (0x3f00_0000 ∷ [])) (floats (0x3f40_0000 ∷ [])))

-- the f32 just below 0.5, 0.5, 254.5, -0.5, infinity, NaN, -infinity, 300, -1
abbrev rounded : List ℕ
rounded =
    map to_byte (floats (0x3eff_ffff ∷ 0x3f00_0000 ∷ 0x437e_8000 ∷ 0xbf00_0000 ∷ 0x7f80_0000 ∷ 0x7fc0_0000 ∷ 0xff80_0000 ∷ 0x4396_0000 ∷ 0xbf80_0000 ∷ []))

abbrev pub sums : List Example
sums =
    -- weights met as 1, -1e8, 1e8: the 1 is lost in the first sum. From the other end it would be 1
    ex (lone 3 1 (pos 100000000 ∷ negsuc 99999999 ∷ pos 1 ∷ [])) (0 ∷ [])
    -- met as 1e8 0 0 / 4 4 0 / -1e8 0 0: each 4 is lost in 1e8. By columns it would be 4, row by row regrouped 8
    ∷ ex (lone 3 3 (pos 0 ∷ pos 0 ∷ negsuc 99999999 ∷ pos 0 ∷ pos 4 ∷ pos 4 ∷ pos 0 ∷ pos 0 ∷ pos 100000000 ∷ [])) (0 ∷ [])
    -- flipped, the 1 meets the sample below. Not flipped it would be 10, 10, 20
    ∷ ex upwards (20 ∷ 30 ∷ 30 ∷ [])
    -- 3/8 is 0. Rounded between the passes it would be 1
    ∷ ex unrounded (0 ∷ [])
    ∷ ex rounded (0 ∷ 1 ∷ 255 ∷ 0 ∷ 255 ∷ 0 ∷ 0 ∷ 255 ∷ 0 ∷ [])
    ∷ []

-- ---- filters: a picture that is not square, weights that are not alike, every border; a filler of its own past the end of each buffer

abbrev kernelled : BorderMode → List ℕ
kernelled mode = shown (apply_kernel (sides 3 2) (weighed 3 3) mode (from 1 6) (wholes (1 ∷ 2 ∷ 3 ∷ 4 ∷ 5 ∷ 6 ∷ 7 ∷ 8 ∷ 6 ∷ [])) (from 201 8))

abbrev separated : BorderMode → List ℕ
separated mode =
    shown_blur (apply_separable_kernel (sides 3 2) (tapped 3 5) mode (from 1 6) (wholes (1 ∷ 2 ∷ 0 ∷ [])) (wholes (0 ∷ 1 ∷ 3 ∷ 2 ∷ 1 ∷ [])) (from_f 301 8) (from 201 7))

abbrev spread : List ℕ
spread = 10 ∷ 200 ∷ 30 ∷ 140 ∷ 50 ∷ 60 ∷ []

abbrev pub filters : List Example
filters =
    ex (kernelled Zero) (0 ∷ 26 ∷ 56 ∷ 54 ∷ 62 ∷ 116 ∷ 96 ∷ 207 ∷ 208 ∷ [])
    ∷ ex (kernelled Clamp) (0 ∷ 72 ∷ 99 ∷ 129 ∷ 117 ∷ 144 ∷ 174 ∷ 207 ∷ 208 ∷ [])
    ∷ ex (kernelled Mirror) (0 ∷ 150 ∷ 162 ∷ 180 ∷ 114 ∷ 126 ∷ 144 ∷ 207 ∷ 208 ∷ [])
    ∷ ex (separated Zero) (0 ∷ 0 ∷ 0 ∷ 0 ∷ 0 ∷ 0 ∷ 0 ∷ 0x4399_8000 ∷ 0x439a_0000 ∷ 25 ∷ 37 ∷ 30 ∷ 47 ∷ 62 ∷ 48 ∷ 207 ∷ [])
    ∷ ex (separated Clamp) (0 ∷ 0 ∷ 0 ∷ 0 ∷ 0 ∷ 0 ∷ 0 ∷ 0x4399_8000 ∷ 0x439a_0000 ∷ 37 ∷ 58 ∷ 72 ∷ 64 ∷ 85 ∷ 99 ∷ 207 ∷ [])
    ∷ ex (separated Mirror) (0 ∷ 0 ∷ 0 ∷ 0 ∷ 0 ∷ 0 ∷ 0 ∷ 0x4399_8000 ∷ 0x439a_0000 ∷ 55 ∷ 76 ∷ 83 ∷ 64 ∷ 85 ∷ 92 ∷ 207 ∷ [])
    ∷ ex (shown_blur (gaussian_blur (sides 3 2) Mirror spread (floats (0x3f00_0000 ∷ 0x3e80_0000 ∷ 0 ∷ [])) (from_f 301 7) (from 201 8)))
    (0 ∷ 0 ∷ 0 ∷ 0 ∷ 0 ∷ 0 ∷ 0 ∷ 0x4399_8000 ∷ 56 ∷ 38 ∷ 47 ∷ 66 ∷ 43 ∷ 64 ∷ 207 ∷ 208 ∷ [])
    ∷ ex (shown_blur (box_blur (sides 3 2) Clamp spread (from_f 301 7) (from 201 8)))
    (0 ∷ 0 ∷ 0 ∷ 0 ∷ 0 ∷ 0 ∷ 0 ∷ 0x4399_8000 ∷ 86 ∷ 81 ∷ 77 ∷ 98 ∷ 82 ∷ 67 ∷ 207 ∷ 208 ∷ [])
    -- the taps are the f32 nearest 1/3: three of them, and nine products, of 255 are 255
    ∷ ex (shown_blur (box_blur (sides 1 1) Clamp (255 ∷ []) (from_f 301 1) (from 201 1))) (0 ∷ 0 ∷ 255 ∷ [])
    ∷ ex (shown (sharpen (sides 3 2) Clamp (100 ∷ 101 ∷ 103 ∷ 102 ∷ 104 ∷ 105 ∷ []) (from 201 7))) (0 ∷ 97 ∷ 97 ∷ 103 ∷ 102 ∷ 108 ∷ 108 ∷ 207 ∷ [])
    ∷ ex (shown (median (sides 3 2) 3 Zero spread (from 201 7))) (0 ∷ 0 ∷ 30 ∷ 0 ∷ 0 ∷ 30 ∷ 0 ∷ 207 ∷ [])
    ∷ ex (shown (median (sides 3 2) 3 Clamp spread (from 201 7))) (0 ∷ 50 ∷ 50 ∷ 50 ∷ 140 ∷ 60 ∷ 60 ∷ 207 ∷ [])
    ∷ ex (shown (median (sides 3 2) 5 Mirror spread (from 201 7))) (0 ∷ 50 ∷ 60 ∷ 50 ∷ 60 ∷ 50 ∷ 60 ∷ 207 ∷ [])
    ∷ ex (occurrences 4 (4 ∷ 5 ∷ 4 ∷ []) ∷ default_window ∷ []) (2 ∷ 3 ∷ [])
    -- refused, each buffer is as it was
    ∷ ex (shown (apply_kernel (sides 1 1) (weighed 1 1) Zero (9 ∷ []) (floats (0x7f80_0000 ∷ [])) (from 201 2))) (4 ∷ 201 ∷ 202 ∷ [])
    ∷ ex (shown_blur (apply_separable_kernel (sides 1 1) (tapped 1 1) Zero (9 ∷ []) (wholes (1 ∷ [])) (wholes (1 ∷ [])) (from_f 307 1) [])) (7 ∷ 0x4399_8000 ∷ [])
    ∷ ex (shown_blur (gaussian_blur (sides 1 1) Zero (9 ∷ []) [] (from_f 307 1) (from 201 2))) (3 ∷ 0x4399_8000 ∷ 201 ∷ 202 ∷ [])
    ∷ ex (shown_blur (box_blur (sides 1 1) Zero [] (from_f 307 1) (from 201 2))) (2 ∷ 0x4399_8000 ∷ 201 ∷ 202 ∷ [])
    ∷ ex (shown (sharpen (sides 641 0) Zero [] (from 201 2))) (1 ∷ 201 ∷ 202 ∷ [])
    ∷ ex (shown (median (sides 1 1) 2 Zero (9 ∷ []) (from 201 2))) (3 ∷ 201 ∷ 202 ∷ [])
    ∷ []

-- ---- gradients, roots and sectors

abbrev slope : List ℕ
slope = 10 ∷ 20 ∷ 35 ∷ 14 ∷ 50 ∷ 60 ∷ []

abbrev components : BorderMode → List ℕ
components mode = shown_pair (sobel_gradients (sides 3 2) mode slope (from_z 301 8) (from_z 401 7))

-- magnitudes of S, as patterns: at both ends of each shift, at the cap and past it
abbrev roots : List ℕ → List ℕ
roots l = patterns (map magnitude_of l)

abbrev pub gradients : List Example
gradients =
    ex (components Zero) (0 ∷ 90 ∷ 96 ∷ 65446 ∷ 120 ∷ 117 ∷ 65416 ∷ 307 ∷ 308 ∷ 78 ∷ 174 ∷ 170 ∷ 65496 ∷ 65451 ∷ 65446 ∷ 407 ∷ [])
    ∷ ex (components Clamp) (0 ∷ 66 ∷ 121 ∷ 55 ∷ 118 ∷ 163 ∷ 45 ∷ 307 ∷ 308 ∷ 42 ∷ 89 ∷ 105 ∷ 42 ∷ 89 ∷ 105 ∷ 407 ∷ [])
    ∷ ex (components Mirror) (0 ∷ 0 ∷ 142 ∷ 0 ∷ 0 ∷ 142 ∷ 0 ∷ 307 ∷ 308 ∷ 0 ∷ 0 ∷ 0 ∷ 0 ∷ 0 ∷ 0 ∷ 407 ∷ [])
    ∷ ex (shown (sobel (sides 3 2) Zero slope (from 201 7))) (0 ∷ 119 ∷ 199 ∷ 192 ∷ 126 ∷ 145 ∷ 150 ∷ 207 ∷ [])
    ∷ ex (shown (sobel (sides 3 2) Clamp slope (from 201 7))) (0 ∷ 78 ∷ 150 ∷ 119 ∷ 125 ∷ 186 ∷ 114 ∷ 207 ∷ [])
    ∷ ex (sobel_byte 0 ∷ sobel_byte 6 ∷ sobel_byte 7 ∷ sobel_byte 64770 ∷ sobel_byte 64771 ∷ sobel_byte 2080800 ∷ []) (0 ∷ 2 ∷ 3 ∷ 254 ∷ 255 ∷ 255 ∷ [])
    ∷ ex (roots (0 ∷ 1 ∷ 3 ∷ 4 ∷ 15 ∷ 16 ∷ 63 ∷ 64 ∷ 255 ∷ []))
    (0 ∷ 0x3f80_0000 ∷ 0x3fdd_b3d7 ∷ 0x4000_0000 ∷ 0x4077_def6 ∷ 0x4080_0000 ∷ 0x40fd_fdfc ∷ 0x4100_0000 ∷ 0x417f_7fe0 ∷ [])
    ∷ ex (roots (256 ∷ 1023 ∷ 1024 ∷ 4095 ∷ 4096 ∷ 16383 ∷ 16384 ∷ 65024 ∷ []))
    (0x4180_0000 ∷ 0x41ff_dffe ∷ 0x4200_0000 ∷ 0x427f_f800 ∷ 0x4280_0000 ∷ 0x42ff_fe00 ∷ 0x4300_0000 ∷ 0x437e_ff7f ∷ [])
    ∷ ex (roots (65025 ∷ 65026 ∷ 65534 ∷ 65535 ∷ 70000 ∷ 2080800 ∷ [])) (0x437f_0000 ∷ 0x437f_0000 ∷ 0x437f_0000 ∷ 0x437f_0000 ∷ 0x437f_0000 ∷ 0x437f_0000 ∷ [])
    ∷ ex (shown_floats (gradient_magnitude (sides 3 1) (pos 3 ∷ negsuc 3 ∷ negsuc 255 ∷ []) (pos 4 ∷ pos 3 ∷ negsuc 299 ∷ []) (from_f 305 5)))
    (0 ∷ 0x40a0_0000 ∷ 0x40a0_0000 ∷ 0x437f_0000 ∷ 0x439a_0000 ∷ 0x439a_8000 ∷ [])
    -- the sectors: each side of both limits, all signs, nothing
    ∷ ex (sector_of (pos 29) (pos 12) ∷ sector_of (pos 12) (pos 5) ∷ sector_of (pos 12) (pos 29) ∷ sector_of (pos 5) (pos 12) ∷ []) (0 ∷ 45 ∷ 90 ∷ 45 ∷ [])
    ∷ ex (sector_of (pos 2) (negsuc 4) ∷ sector_of (negsuc 6) (pos 3) ∷ sector_of (negsuc 6) (negsuc 2) ∷ sector_of (pos 0) (pos 0) ∷ []) (90 ∷ 135 ∷ 45 ∷ 0 ∷ [])
    ∷ ex (sector_of (pos 1) (pos 1) ∷ sector_of (pos 1) (pos 0) ∷ sector_of (pos 0) (negsuc 0) ∷ sector_of (negsuc 0) (pos 1) ∷ []) (45 ∷ 0 ∷ 90 ∷ 135 ∷ [])
    -- refused
    ∷ ex (shown_pair (sobel_gradients (sides 1 1) Zero (9 ∷ []) (from_z 301 2) [])) (7 ∷ 301 ∷ 302 ∷ [])
    ∷ ex (shown (sobel (sides 1 1) Zero [] (from 201 2))) (2 ∷ 201 ∷ 202 ∷ [])
    ∷ ex (shown_floats (gradient_magnitude (sides 1 1) (pos 3 ∷ []) [] (from_f 307 1))) (2 ∷ 0x4399_8000 ∷ [])
    ∷ []

-- ---- suppression, 4 by 3: the inner pixel in column 2 of row 1, index 6, has magnitude 5 and a gradient; pixel 5 has none

-- its value afterwards, where its neighbours i and j have the magnitude v and all others w
abbrev kept : ℤ → ℤ → ℕ → ℕ → Float → Float → ℕ
kept x y i j v w =
    let m = tabulate 12 (λ k. cond (eqb k 6) (whole_f32 (pos 5)) (cond (eqb k i || eqb k j) v w)) in
    let gx = tabulate 12 (λ k. cond (eqb k 6) x (pos 0)) in
    let gy = tabulate 12 (λ k. cond (eqb k 6) y (pos 0)) in
    get_or (patterns (non_maximum_suppression (sides 4 3) m gx gy (from_f 301 12)).1) 6 0

-- by 5 beside it and 9 elsewhere: only its sector's two are looked at. By 6 at one of the two and 1 elsewhere: both are.
abbrev looked : ℤ → ℤ → ℕ → ℕ → List ℕ
looked x y i j =
    let one = whole_f32 (pos 1) in
    let six = whole_f32 (pos 6) in
    kept x y i j (whole_f32 (pos 5)) (whole_f32 (pos 9)) ∷ kept x y i i six one ∷ kept x y j j six one ∷ kept x y i i nan one ∷ kept x y j j nan one ∷ []

abbrev pub suppressed : List Example
suppressed =
    ex (looked (pos 1) (pos 0) 5 7) (0x40a0_0000 ∷ 0 ∷ 0 ∷ 0 ∷ 0 ∷ [])
    ∷ ex (looked (pos 1) (pos 1) 1 11) (0x40a0_0000 ∷ 0 ∷ 0 ∷ 0 ∷ 0 ∷ [])
    ∷ ex (looked (pos 0) (pos 1) 2 10) (0x40a0_0000 ∷ 0 ∷ 0 ∷ 0 ∷ 0 ∷ [])
    ∷ ex (looked (pos 1) (negsuc 0) 3 9) (0x40a0_0000 ∷ 0 ∷ 0 ∷ 0 ∷ 0 ∷ [])
    -- NaN elsewhere is not looked at; a pixel that is NaN goes
    ∷ ex (kept (pos 1) (pos 0) 5 7 (whole_f32 (pos 5)) nan ∷ []) (0x40a0_0000 ∷ [])
    ∷ ex (shown_floats (non_maximum_suppression (sides 3 3) (tabulate 9 (λ i. nan)) (from_z 1 9) (from_z 1 9) (from_f 301 9))) (0 ∷ 0 ∷ 0 ∷ 0 ∷ 0 ∷ 0 ∷ 0 ∷ 0 ∷ 0 ∷ 0 ∷ [])
    -- outer rows and columns: sevens all over, and entries past the picture
    ∷ ex (shown_floats (non_maximum_suppression (sides 4 3) (tabulate 12 (λ i. whole_f32 (pos 7))) (tabulate 12 (λ i. pos 0)) (tabulate 12 (λ i. pos 0)) (from_f 295 13)))
    (0 ∷ 0 ∷ 0 ∷ 0 ∷ 0 ∷ 0 ∷ 0x40e0_0000 ∷ 0x40e0_0000 ∷ 0 ∷ 0 ∷ 0 ∷ 0 ∷ 0 ∷ 0x4399_8000 ∷ [])
    ∷ ex (shown_floats (non_maximum_suppression (sides 3 4) (tabulate 12 (λ i. whole_f32 (pos 7))) (tabulate 12 (λ i. pos 0)) (tabulate 12 (λ i. pos 1)) (from_f 295 13)))
    (0 ∷ 0 ∷ 0 ∷ 0 ∷ 0 ∷ 0x40e0_0000 ∷ 0 ∷ 0 ∷ 0x40e0_0000 ∷ 0 ∷ 0 ∷ 0 ∷ 0 ∷ 0x4399_8000 ∷ [])
    ∷ ex (shown_floats (non_maximum_suppression (sides 1 1) (wholes (7 ∷ [])) (pos 1 ∷ []) [] (from_f 307 1))) (2 ∷ 0x4399_8000 ∷ [])
    ∷ []

-- ---- walks

-- a start over buffers that hold 11, 12, .. and 21, 22, .. and are two and three entries longer than the picture
abbrev begun : Size → List ℕ → Started × (List ℕ × List ℕ)
begun d m = Calls.start d (between 50 100) (wholes m) (from 11 (length m + 2)) (from 21 (length m + 3))

-- what it leaves, and what a slice of it leaves
abbrev begun_shown : Size → List ℕ → List ℕ
begun_shown d m = shown_start (begun d m)

abbrev sliced_shown : Size → List ℕ → ℕ → List ℕ
sliced_shown d m budget = let a = begun d m in shown_slice (Calls.slice a.0.walk budget a.1.0 a.1.1)

-- a walk's state as a caller holds it
abbrev walk : ℕ → ℕ → ℕ → Walk
walk w h p = record { width = w; height = h; pending = p }

-- whether a state of two pixels side by side is unusable
abbrev bad : List ℕ → List ℕ → ℕ → ℕ
bad marks stack pending = bit (unusable (sides 2 1) (state marks stack pending))

abbrev pub walks : List Example
walks =
    -- 2 by 2, 120 60 / 60 0: at the start, and after one and two takes. The first take looks at pixel 1 before pixel 2
    ex (begun_shown (sides 2 2) (120 ∷ 60 ∷ 60 ∷ 0 ∷ [])) (0 ∷ 2 ∷ 2 ∷ 1 ∷ 2 ∷ 1 ∷ 1 ∷ 0 ∷ 15 ∷ 16 ∷ 0 ∷ 0 ∷ 0 ∷ 0 ∷ 25 ∷ 26 ∷ 27 ∷ [])
    ∷ ex (sliced_shown (sides 2 2) (120 ∷ 60 ∷ 60 ∷ 0 ∷ []) 1) (0 ∷ 1 ∷ 2 ∷ 2 ∷ 2 ∷ 3 ∷ 2 ∷ 2 ∷ 0 ∷ 15 ∷ 16 ∷ 1 ∷ 2 ∷ 0 ∷ 0 ∷ 25 ∷ 26 ∷ 27 ∷ [])
    ∷ ex (sliced_shown (sides 2 2) (120 ∷ 60 ∷ 60 ∷ 0 ∷ []) 2) (0 ∷ 2 ∷ 2 ∷ 2 ∷ 1 ∷ 3 ∷ 2 ∷ 3 ∷ 0 ∷ 15 ∷ 16 ∷ 1 ∷ 0 ∷ 0 ∷ 0 ∷ 25 ∷ 26 ∷ 27 ∷ [])
    -- pictures that are not square: 1 by 2, 120 / 60; 3 by 2, 60 60 120 / 0 0 60; 2 by 3, 0 0 / 0 120 / 60 0
    ∷ ex (sliced_shown (sides 1 2) (120 ∷ 60 ∷ []) 1) (0 ∷ 1 ∷ 1 ∷ 2 ∷ 1 ∷ 3 ∷ 2 ∷ 13 ∷ 14 ∷ 1 ∷ 0 ∷ 23 ∷ 24 ∷ 25 ∷ [])
    ∷ ex (sliced_shown (sides 3 2) (60 ∷ 60 ∷ 120 ∷ 0 ∷ 0 ∷ 60 ∷ []) 2)
    (0 ∷ 2 ∷ 3 ∷ 2 ∷ 1 ∷ 1 ∷ 2 ∷ 3 ∷ 0 ∷ 0 ∷ 3 ∷ 17 ∷ 18 ∷ 1 ∷ 0 ∷ 0 ∷ 0 ∷ 0 ∷ 0 ∷ 27 ∷ 28 ∷ 29 ∷ [])
    ∷ ex (sliced_shown (sides 3 2) (60 ∷ 60 ∷ 120 ∷ 0 ∷ 0 ∷ 60 ∷ []) 9)
    (0 ∷ 4 ∷ 3 ∷ 2 ∷ 0 ∷ 3 ∷ 3 ∷ 3 ∷ 0 ∷ 0 ∷ 3 ∷ 17 ∷ 18 ∷ 0 ∷ 0 ∷ 0 ∷ 0 ∷ 0 ∷ 0 ∷ 27 ∷ 28 ∷ 29 ∷ [])
    ∷ ex (sliced_shown (sides 2 3) (0 ∷ 0 ∷ 0 ∷ 120 ∷ 60 ∷ 0 ∷ []) 1)
    (0 ∷ 1 ∷ 2 ∷ 3 ∷ 1 ∷ 0 ∷ 0 ∷ 0 ∷ 3 ∷ 2 ∷ 0 ∷ 17 ∷ 18 ∷ 4 ∷ 0 ∷ 0 ∷ 0 ∷ 0 ∷ 0 ∷ 27 ∷ 28 ∷ 29 ∷ [])
    -- a row of pixels does not go on at the next row's other end
    ∷ ex (sliced_shown (sides 3 2) (0 ∷ 0 ∷ 120 ∷ 60 ∷ 0 ∷ 0 ∷ []) 9)
    (0 ∷ 1 ∷ 3 ∷ 2 ∷ 0 ∷ 0 ∷ 0 ∷ 3 ∷ 1 ∷ 0 ∷ 0 ∷ 17 ∷ 18 ∷ 0 ∷ 0 ∷ 0 ∷ 0 ∷ 0 ∷ 0 ∷ 27 ∷ 28 ∷ 29 ∷ [])
    -- at high, at low, and a NaN
    ∷ ex (shown_start (Calls.start (sides 3 1) (between 50 100) (whole_f32 (pos 100) ∷ whole_f32 (pos 50) ∷ nan ∷ []) (from 11 3) (from 21 3)))
    (0 ∷ 3 ∷ 1 ∷ 1 ∷ 2 ∷ 1 ∷ 0 ∷ 0 ∷ 0 ∷ 0 ∷ [])
    -- refused: a start is all zero, a slice and a map request hand the state back; no buffer changes
    ∷ ex (shown_start (Calls.start (sides 2 1) (between 50 100) (wholes (120 ∷ 60 ∷ [])) (from 11 3) (from 21 1))) (7 ∷ 0 ∷ 0 ∷ 0 ∷ 11 ∷ 12 ∷ 13 ∷ 21 ∷ [])
    ∷ ex (shown_slice (Calls.slice (walk 2 1 1) 0 (2 ∷ 1 ∷ 13 ∷ []) (0 ∷ 22 ∷ 23 ∷ []))) (8 ∷ 0 ∷ 2 ∷ 1 ∷ 1 ∷ 2 ∷ 1 ∷ 13 ∷ 0 ∷ 22 ∷ 23 ∷ [])
    ∷ ex (shown_map (Calls.map (walk 2 1 1) (2 ∷ 1 ∷ []) (0 ∷ 22 ∷ []) (from 31 3))) (10 ∷ 2 ∷ 1 ∷ 1 ∷ 31 ∷ 32 ∷ 33 ∷ [])
    -- the map: 255 at mark 3 alone, and nothing past the picture
    ∷ ex (shown_map (Calls.map (walk 2 2 0) (3 ∷ 1 ∷ 0 ∷ 2 ∷ 3 ∷ []) (21 ∷ 22 ∷ 23 ∷ 24 ∷ []) (from 31 5))) (0 ∷ 2 ∷ 2 ∷ 0 ∷ 255 ∷ 0 ∷ 0 ∷ 0 ∷ 35 ∷ [])
    -- an ended walk takes nothing
    ∷ ex (shown_slice (Calls.slice (walk 2 1 0) 5 (3 ∷ 1 ∷ 13 ∷ []) (0 ∷ 0 ∷ 23 ∷ []))) (0 ∷ 0 ∷ 2 ∷ 1 ∷ 0 ∷ 3 ∷ 1 ∷ 13 ∷ 0 ∷ 0 ∷ 23 ∷ [])
    -- unusable: pending over the pixels; an index past them, but not at a place past the pending count; a mark over 3, but not past the
    -- pixels; more weak and pending than pixels, weak ones past them not counted
    ∷ ex (bad (2 ∷ 2 ∷ []) (0 ∷ 1 ∷ 0 ∷ []) 3 ∷ bad (2 ∷ 2 ∷ []) (0 ∷ 1 ∷ 0 ∷ []) 2 ∷ []) (1 ∷ 0 ∷ [])
    ∷ ex (bad (2 ∷ 2 ∷ []) (0 ∷ 2 ∷ []) 2 ∷ bad (2 ∷ 0 ∷ []) (0 ∷ 2 ∷ []) 1 ∷ []) (1 ∷ 0 ∷ [])
    ∷ ex (bad (4 ∷ 0 ∷ []) (0 ∷ 0 ∷ []) 0 ∷ bad (3 ∷ 0 ∷ []) (0 ∷ 0 ∷ []) 0 ∷ bad (0 ∷ 0 ∷ 4 ∷ []) (0 ∷ 0 ∷ []) 0 ∷ []) (1 ∷ 0 ∷ 0 ∷ [])
    ∷ ex (bad (1 ∷ 2 ∷ []) (1 ∷ 1 ∷ []) 2 ∷ bad (1 ∷ 2 ∷ []) (1 ∷ 0 ∷ []) 1 ∷ bad (2 ∷ 2 ∷ 1 ∷ []) (0 ∷ 1 ∷ []) 2 ∷ []) (1 ∷ 0 ∷ 0 ∷ [])
    ∷ []

-- ---- the tables of refusals

-- the tests by themselves
abbrev applies : Rule → ℕ
applies r = bit r.applies

-- low and high, by their patterns
abbrev refused_by : (Thresholds → Rule) → ℕ → ℕ → ℕ
refused_by row low high = applies (row (thresholds low high))

abbrev pub tests : List Example
tests =
    ex (map applies (side_row (sides 640 640) ∷ side_row (sides 641 0) ∷ side_row (sides 0 641) ∷ one_side_row 0 ∷ one_side_row 1 ∷ one_side_row 640 ∷ one_side_row 641 ∷ []))
    (0 ∷ 1 ∷ 1 ∷ 1 ∷ 0 ∷ 0 ∷ 1 ∷ [])
    ∷ ex (map (λ n. applies (count_row max_taps n)) (0 ∷ 1 ∷ 2 ∷ 62 ∷ 63 ∷ 65 ∷ [])) (1 ∷ 0 ∷ 1 ∷ 1 ∷ 0 ∷ 1 ∷ [])
    ∷ ex (map (λ n. applies (count_row max_kernel n)) (1 ∷ 14 ∷ 15 ∷ 17 ∷ [])) (0 ∷ 1 ∷ 0 ∷ 1 ∷ [])
    ∷ ex (map (λ n. applies (count_row max_window n)) (1 ∷ 14 ∷ 15 ∷ 17 ∷ [])) (0 ∷ 1 ∷ 0 ∷ 1 ∷ [])
    ∷ ex (map (λ l. applies (weight_row (floats l))) ([] ∷ (0x3f80_0000 ∷ []) ∷ (0 ∷ 0x7fc0_0000 ∷ []) ∷ (0x7f80_0000 ∷ 0 ∷ []) ∷ (0xff80_0000 ∷ []) ∷ []))
    (0 ∷ 0 ∷ 1 ∷ 1 ∷ 1 ∷ [])
    -- -0 and 255 pass; NaN, infinities, the first f32 below 0 and the first above 255 do not, as low or as high
    ∷ ex (refused_by threshold_row 0x8000_0000 0x437f_0000 ∷ refused_by threshold_row 0x7fc0_0000 0 ∷ refused_by threshold_row 0 0x7fc0_0000 ∷ [])
    (0 ∷ 1 ∷ 1 ∷ [])
    ∷ ex (refused_by threshold_row 0 0x7f80_0000 ∷ refused_by threshold_row 0xff80_0000 0 ∷ refused_by threshold_row 0x8000_0001 0 ∷ refused_by threshold_row 0 0x437f_0001 ∷ [])
    (1 ∷ 1 ∷ 1 ∷ 1 ∷ [])
    ∷ ex (refused_by order_row 1 0 ∷ refused_by order_row 0 1 ∷ refused_by order_row 0 0x8000_0000 ∷ refused_by order_row 1 1 ∷ []) (1 ∷ 0 ∷ 0 ∷ 0 ∷ [])
    ∷ ex (map (λ n. applies (get_or (plain_rows (sides 3 2) (zeros n) (zeros 6)) 1 (side_row (sides 0 0)))) (5 ∷ 6 ∷ 7 ∷ [])) (1 ∷ 0 ∷ 1 ∷ [])
    ∷ ex (map (λ n. applies (get_or (plain_rows (sides 3 2) (zeros 6) (zeros n)) 2 (side_row (sides 0 0)))) (5 ∷ 6 ∷ 7 ∷ [])) (1 ∷ 0 ∷ 0 ∷ [])
    ∷ []

-- A call's table, told by calls in which chosen subjects are wrong: in `table w`, subject k where w k is true. Shown are the rows' numbers;
-- for each row, which rows apply where its subject alone is wrong; and for each row the number where its subject and the next row's are.
abbrev flat : List (List ℕ) → List ℕ
flat [] = []
flat (l ∷ ls) = l ++ flat ls

abbrev table_of : ((ℕ → Bool) → List Rule) → List ℕ
table_of table =
    let numbers_of = map (λ r. r.number) (table (λ j. false)) in
    let n = length numbers_of in
    numbers_of
    ++ (flat (tabulate n (λ k. map applies (table (λ j. eqb j k)))) ++ tabulate n (λ k. first (table (λ j. eqb j k || eqb j (k + 1)))))

-- and that is what it shows where the rows have these numbers, in this order: each applies alone, and goes before the next
abbrev in_order : List ℕ → List ℕ
in_order numbers_of =
    let n = length numbers_of in
    numbers_of ++ (flat (tabulate n (λ k. tabulate n (λ j. bit (eqb j k)))) ++ numbers_of)

-- the subjects: a side over the limit, an input one too long, a buffer one too short, an even count, one weight too many, a NaN
abbrev sized : ℕ → Bool → Size
sized height wrong = cond wrong (sides 641 height) (sides 1 1)

abbrev input {ℓ} : {A : Type ℓ} → A → Size → Bool → List A
input z d wrong = tabulate (area d + bit wrong) (λ i. z)

abbrev room {ℓ} : {A : Type ℓ} → A → Size → Bool → List A
room z d wrong = tabulate (area d - bit wrong) (λ i. z)

abbrev counted : Bool → ℕ
counted wrong = 1 + bit wrong

abbrev given : ℕ → Bool → Bool → List Float
given n more notFinite = tabulate (n + bit more) (λ k. cond notFinite nan plus_zero)

-- a threshold that is NaN or -1, low over high, or both
abbrev pair : Bool → Bool → Thresholds
pair bad over =
    let nans = of_bits binary32 0x7fc0_0000 in
    record {
      low = cond over (whole_f32 (pos 2)) (cond bad nans (whole_f32 (pos 1)));
      high = cond over (cond bad (whole_f32 (negsuc 0)) (whole_f32 (pos 1))) (whole_f32 (pos 2));
    }

-- marks of which one is over 3
abbrev marked : Size → Bool → Bool → List ℕ
marked d short wrong = room (cond wrong 4 0) d short

module _ (w : ℕ → Bool) where
  abbrev size : Size
  size = sized 0 (w 0)

  abbrev kernel_table : List Rule
  kernel_table =
      let x = counted (w 2) in
      let y = counted (w 3) in
      kernel_rows size (weighed x y) (input 0 size (w 1)) (given (x * y) (w 4) (w 5)) (room 0 size (w 6))

  abbrev separable_table : List Rule
  separable_table =
      let x = counted (w 2) in
      let y = counted (w 3) in
      separable_rows size (tapped x y) (input 0 size (w 1)) (given x (w 4) (w 6)) (given y (w 5) (w 7)) (room plus_zero size (w 8)) (room 0 size (w 9))

  abbrev blur_table : List Rule
  blur_table = blur_rows size (input 0 size (w 1)) (given (counted (w 2)) false (w 3)) (room plus_zero size (w 4)) (room 0 size (w 5))

  abbrev box_table : List Rule
  box_table = box_rows size (input 0 size (w 1)) (room plus_zero size (w 2)) (room 0 size (w 3))

  abbrev plain_table : List Rule
  plain_table = plain_rows size (input 0 size (w 1)) (room 0 size (w 2))

  abbrev median_table : List Rule
  median_table = median_rows size (counted (w 2)) (input 0 size (w 1)) (room 0 size (w 3))

  abbrev gradient_table : List Rule
  gradient_table = gradient_rows size (input 0 size (w 1)) (room (pos 0) size (w 2)) (room (pos 0) size (w 3))

  abbrev magnitude_table : List Rule
  magnitude_table = magnitude_rows size (input (pos 0) size (w 1)) (input (pos 0) size (w 2)) (room plus_zero size (w 3))

  abbrev suppression_table : List Rule
  suppression_table =
      suppression_rows size (input plus_zero size (w 1)) (input (pos 0) size (w 2)) (input (pos 0) size (w 3)) (room plus_zero size (w 4))

  abbrev start_table : List Rule
  start_table = start_rows size (pair (w 2) (w 3)) (input plus_zero size (w 1)) (room 0 size (w 4)) (room 0 size (w 5))

  abbrev slice_table : List Rule
  slice_table =
      let d = sized 1 (w 0) in
      slice_rows d (cond (w 3) 0 1) (state (marked d (w 1) (w 4)) (room 0 d (w 2)) 0)

  abbrev map_table : List Rule
  map_table =
      let d = sized 1 (w 0) in
      map_rows d (state (marked d (w 1) (w 4)) (room 0 d (w 2)) (bit (w 5))) (room 0 d (w 3))

  abbrev run_table : List Rule
  run_table =
      let s : Scratch = record {
        work = room plus_zero size (w 6);
        magnitude = room plus_zero size (w 7);
        gx = room (pos 0) size (w 8);
        gy = room (pos 0) size (w 9);
        blurred = room 0 size (w 10);
        marks = room 0 size (w 11);
        stack = room 0 size (w 12);
      } in
      run_rows size (input 0 size (w 1)) (given (counted (w 2)) false (w 3)) (pair (w 4) (w 5)) s (room 0 size (w 13))

abbrev pub tables : List Example
tables =
    ex (table_of kernel_table) (in_order (1 ∷ 2 ∷ 3 ∷ 3 ∷ 3 ∷ 4 ∷ 7 ∷ []))
    ∷ ex (table_of separable_table) (in_order (1 ∷ 2 ∷ 3 ∷ 3 ∷ 3 ∷ 3 ∷ 4 ∷ 4 ∷ 7 ∷ 7 ∷ []))
    ∷ ex (table_of blur_table) (in_order (1 ∷ 2 ∷ 3 ∷ 4 ∷ 7 ∷ 7 ∷ []))
    ∷ ex (table_of box_table) (in_order (1 ∷ 2 ∷ 7 ∷ 7 ∷ []))
    ∷ ex (table_of plain_table) (in_order (1 ∷ 2 ∷ 7 ∷ []))
    ∷ ex (table_of median_table) (in_order (1 ∷ 2 ∷ 3 ∷ 7 ∷ []))
    ∷ ex (table_of gradient_table) (in_order (1 ∷ 2 ∷ 7 ∷ 7 ∷ []))
    ∷ ex (table_of magnitude_table) (in_order (1 ∷ 2 ∷ 2 ∷ 7 ∷ []))
    ∷ ex (table_of suppression_table) (in_order (1 ∷ 2 ∷ 2 ∷ 2 ∷ 7 ∷ []))
    ∷ ex (table_of start_table) (in_order (1 ∷ 2 ∷ 5 ∷ 6 ∷ 7 ∷ 7 ∷ []))
    ∷ ex (table_of slice_table) (in_order (1 ∷ 7 ∷ 7 ∷ 8 ∷ 9 ∷ []))
    ∷ ex (table_of map_table) (in_order (1 ∷ 7 ∷ 7 ∷ 7 ∷ 9 ∷ 10 ∷ []))
    ∷ ex (table_of run_table) (in_order (1 ∷ 2 ∷ 3 ∷ 4 ∷ 5 ∷ 6 ∷ 7 ∷ 7 ∷ 7 ∷ 7 ∷ 7 ∷ 7 ∷ 7 ∷ 7 ∷ []))
    ∷ []

-- ---- a whole run, 5 by 3, with a filler of its own past the end of each buffer

abbrev scratch_shown : Scratch → List ℕ
scratch_shown s =
    patterns s.work ++ (patterns s.magnitude ++ (words s.gx ++ (words s.gy ++ (s.blurred ++ (s.marks ++ s.stack)))))

abbrev shown_run : Counted × (List ℕ × Scratch) → List ℕ
shown_run a = a.0.refusal ∷ a.0.count ∷ (a.1.0 ++ scratch_shown a.1.1)

-- a picture that Mirror or Zero in the blur, or in Sobel, gives other edges, and so does the vendor's neighbour table
abbrev card : List ℕ
card = 80 ∷ 30 ∷ 40 ∷ 80 ∷ 80 ∷ 80 ∷ 20 ∷ 20 ∷ 0 ∷ 0 ∷ 10 ∷ 20 ∷ 40 ∷ 20 ∷ 80 ∷ []

-- taps of 1/4, 1/2, 1/4; each buffer from a number of its own on, n entries long
abbrev quarters : List ℕ
quarters = 0x3e80_0000 ∷ 0x3f00_0000 ∷ 0x3e80_0000 ∷ []

abbrev ran : ℕ → ℕ → Thresholds → List ℕ
ran n m t =
    let s : Scratch = record {
      work = from_f 301 n;
      magnitude = from_f 401 n;
      gx = from_z 501 n;
      gy = from_z 601 n;
      blurred = from 101 n;
      marks = from 151 n;
      stack = from 701 n;
    } in
    shown_run (canny (sides 5 3) card (floats quarters) t s (from 201 m))

-- a scratch buffer after it
abbrev wiped : ℕ → List ℕ
wiped past = zeros 15 ++ (past ∷ [])

abbrev pub runs : List Example
runs =
    ex (ran 16 17 (between 40 100))
    (flat (
    (0 ∷ 2 ∷ []) ∷ zeros 6 ∷ (255 ∷ 255 ∷ []) ∷ zeros 7 ∷ (216 ∷ 217 ∷ [])
    ∷ wiped 0x439e_0000 ∷ wiped 0x43d0_0000 ∷ wiped 516 ∷ wiped 616 ∷ wiped 116 ∷ wiped 166 ∷ wiped 716 ∷ []
    ))
    ∷ ex (ran 2 1 (between 100 40))
    (6 ∷ 0 ∷ 201 ∷ 0x4396_8000 ∷ 0x4397_0000 ∷ 0x43c8_8000 ∷ 0x43c9_0000 ∷ 501 ∷ 502 ∷ 601 ∷ 602 ∷ 101 ∷ 102 ∷ 151 ∷ 152 ∷ 701 ∷ 702 ∷ [])
    ∷ []

-- ---- the diagonals (02.2): both tables' rows, and where a diagonal gradient counts

abbrev steps : Table → ℕ → List ℕ
steps table sector =
    let n = table sector in
    words (n.0.dx ∷ n.0.dy ∷ n.1.dx ∷ n.1.dy ∷ [])

-- the pixels of 01's frame, 5 by 4 (01.Frame.8)
abbrev step : List ℕ
step = 0 ∷ 0 ∷ 50 ∷ 50 ∷ 50 ∷ 0 ∷ 0 ∷ 50 ∷ 50 ∷ 50 ∷ 0 ∷ 0 ∷ 50 ∷ 50 ∷ 50 ∷ 0 ∷ 0 ∷ 50 ∷ 50 ∷ 50 ∷ []

-- 4 by 3, where only pixel i has a gradient
abbrev diagonal : ℕ → ℤ → ℤ → ℕ
diagonal i x y = bit (any_diagonal (sides 4 3) (tabulate 12 (λ k. cond (eqb k i) x (pos 0))) (tabulate 12 (λ k. cond (eqb k i) y (pos 0))))

abbrev pub diagonals : List Example
diagonals =
    ex (steps neighbours 0 ++ (steps neighbours 45 ++ (steps neighbours 90 ++ steps neighbours 135)))
    (65535 ∷ 0 ∷ 1 ∷ 0 ∷ 65535 ∷ 65535 ∷ 1 ∷ 1 ∷ 0 ∷ 65535 ∷ 0 ∷ 1 ∷ 1 ∷ 65535 ∷ 65535 ∷ 1 ∷ [])
    -- 01's (01.Gradient.14 to 01.Gradient.17)
    ∷ ex (steps vendor_neighbours 0 ++ (steps vendor_neighbours 45 ++ (steps vendor_neighbours 90 ++ steps vendor_neighbours 135)))
    (65535 ∷ 0 ∷ 1 ∷ 0 ∷ 1 ∷ 65535 ∷ 65535 ∷ 1 ∷ 0 ∷ 65535 ∷ 0 ∷ 1 ∷ 65535 ∷ 65535 ∷ 1 ∷ 1 ∷ [])
    -- the inner pixel 6, and pixels in the outer columns and rows; a gradient that is not diagonal
    ∷ ex (diagonal 6 (pos 1) (pos 1) ∷ diagonal 6 (pos 1) (negsuc 0) ∷ diagonal 6 (pos 1) (pos 0) ∷ diagonal 6 (pos 0) (pos 1) ∷ []) (1 ∷ 1 ∷ 0 ∷ 0 ∷ [])
    ∷ ex (diagonal 4 (pos 1) (pos 1) ∷ diagonal 7 (pos 1) (pos 1) ∷ diagonal 2 (pos 1) (pos 1) ∷ diagonal 9 (pos 1) (pos 1) ∷ []) (0 ∷ 0 ∷ 0 ∷ 0 ∷ [])
    -- 01's frame has none, so that it keeps its bytes (02.2.5); the run above has
    ∷ ex (bit (any_diagonal_in (sides 5 4) step (wholes (1 ∷ []))) ∷ bit (any_diagonal_in (sides 5 3) card (floats quarters)) ∷ []) (0 ∷ 1 ∷ [])
    ∷ []

-- ---- frame files

-- little-endian words, and a file of a header, taps and pixels
abbrev bytes_of : ℕ → List ℕ
bytes_of n = n % 256 ∷ n / 256 % 256 ∷ n / 65536 % 256 ∷ n / 16777216 ∷ []

abbrev file_of : List ℕ → List ℕ → List ℕ → List ℕ
file_of header taps pixels = flat (map bytes_of header) ++ (flat (map bytes_of taps) ++ pixels)

-- 01's frame: low 50, high 100, one tap of 1, and the pixels
abbrev header : List ℕ
header = 5 ∷ 4 ∷ 1 ∷ 32 ∷ 36 ∷ 0x4248_0000 ∷ 0x42c8_0000 ∷ 56 ∷ []

abbrev framed : List ℕ → List ℕ
framed h = file_of h (0x3f80_0000 ∷ []) step

-- whether a file breaks the layout, where word k of that header is v
abbrev broken : ℕ → ℕ → ℕ
broken k v = bit (breach (framed (set header k v)))

-- whether it does, of a header and n bytes of 0 behind it
abbrev blank : ℕ → List ℕ
blank zero = []
blank (suc n) = 0 ∷ blank n

abbrev empty : List ℕ → ℕ → ℕ
empty h n = bit (breach (file_of h [] (blank n)))

abbrev pub frames : List Example
frames =
    -- what 01 says it prints (01.Frame.8, 01.Frame.9)
    ex (printout (framed header))
    (101 ∷ 100 ∷ 103 ∷ 101 ∷ 115 ∷ 32 ∷ 53 ∷ 32 ∷ 52 ∷ 32 ∷ 52 ∷ 10
    ∷ 46 ∷ 46 ∷ 46 ∷ 46 ∷ 46 ∷ 10
    ∷ 46 ∷ 35 ∷ 35 ∷ 46 ∷ 46 ∷ 10
    ∷ 46 ∷ 35 ∷ 35 ∷ 46 ∷ 46 ∷ 10
    ∷ 46 ∷ 46 ∷ 46 ∷ 46 ∷ 46 ∷ 10 ∷ [])
    -- the run above as a frame: three taps
    ∷ ex (printout (file_of (5 ∷ 3 ∷ 3 ∷ 32 ∷ 44 ∷ 0x4220_0000 ∷ 0x42c8_0000 ∷ 59 ∷ []) quarters card))
    (101 ∷ 100 ∷ 103 ∷ 101 ∷ 115 ∷ 32 ∷ 53 ∷ 32 ∷ 51 ∷ 32 ∷ 50 ∷ 10
    ∷ 46 ∷ 46 ∷ 46 ∷ 46 ∷ 46 ∷ 10
    ∷ 46 ∷ 35 ∷ 35 ∷ 46 ∷ 46 ∷ 10
    ∷ 46 ∷ 46 ∷ 46 ∷ 46 ∷ 46 ∷ 10 ∷ [])
    -- each word one less and one more: only the thresholds' may be
    ∷ ex (broken 0 4 ∷ broken 0 6 ∷ broken 1 3 ∷ broken 1 5 ∷ broken 2 0 ∷ broken 2 2 ∷ broken 3 31 ∷ broken 3 33 ∷ []) (1 ∷ 1 ∷ 1 ∷ 1 ∷ 1 ∷ 1 ∷ 1 ∷ 1 ∷ [])
    ∷ ex (broken 4 35 ∷ broken 4 37 ∷ broken 5 0x4247_ffff ∷ broken 5 0x4248_0001 ∷ broken 6 0x42c7_ffff ∷ broken 6 0x42c8_0001 ∷ broken 7 55 ∷ broken 7 57 ∷ [])
    (1 ∷ 1 ∷ 0 ∷ 0 ∷ 0 ∷ 0 ∷ 1 ∷ 1 ∷ [])
    -- a byte too few and one too many; 49 wide, 49 high; 2,588 bytes and 2,589
    ∷ ex (bit (breach (drop 1 (framed header))) ∷ bit (breach (framed header ++ (0 ∷ []))) ∷ []) (1 ∷ 1 ∷ [])
    ∷ ex (empty (49 ∷ 0 ∷ 0 ∷ 32 ∷ 32 ∷ 0 ∷ 0 ∷ 32 ∷ []) 0 ∷ empty (0 ∷ 49 ∷ 0 ∷ 32 ∷ 32 ∷ 0 ∷ 0 ∷ 32 ∷ []) 0 ∷ empty (48 ∷ 0 ∷ 0 ∷ 32 ∷ 32 ∷ 0 ∷ 0 ∷ 32 ∷ []) 0 ∷ [])
    (1 ∷ 1 ∷ 0 ∷ [])
    ∷ ex (empty (48 ∷ 48 ∷ 63 ∷ 32 ∷ 284 ∷ 0 ∷ 0 ∷ 2588 ∷ []) 2556 ∷ empty (47 ∷ 47 ∷ 87 ∷ 32 ∷ 380 ∷ 0 ∷ 0 ∷ 2589 ∷ []) 2557 ∷ []) (0 ∷ 1 ∷ [])
    -- refused by the layout first, else by the library's number
    ∷ ex (printout (framed (set header 3 33))) (114 ∷ 101 ∷ 102 ∷ 117 ∷ 115 ∷ 101 ∷ 100 ∷ 32 ∷ 49 ∷ 49 ∷ 10 ∷ [])
    ∷ ex (printout (framed (set header 6 0))) (114 ∷ 101 ∷ 102 ∷ 117 ∷ 115 ∷ 101 ∷ 100 ∷ 32 ∷ 54 ∷ 10 ∷ [])
    ∷ ex (printout (framed (set (set header 6 0) 3 33))) (114 ∷ 101 ∷ 102 ∷ 117 ∷ 115 ∷ 101 ∷ 100 ∷ 32 ∷ 49 ∷ 49 ∷ 10 ∷ [])
    ∷ ex (decimal 0 ++ (decimal 9 ++ (decimal 10 ++ decimal 2304))) (48 ∷ 57 ∷ 49 ∷ 48 ∷ 50 ∷ 51 ∷ 48 ∷ 52 ∷ [])
    ∷ []

-- ---- answers (01.Refusal.14, 01.Shape.15)

-- a walk of 2 by 3 with one pixel pending
abbrev held_walk : Walk
held_walk = record { width = 2; height = 3; pending = 1 }

abbrev told_start : Started → List ℕ
told_start a = a.refusal ∷ held a.walk

abbrev told_slice : Sliced → List ℕ
told_slice a = a.refusal ∷ a.takes ∷ held a.walk

abbrev told_map : Mapped → List ℕ
told_map a = a.refusal ∷ held a.walk

abbrev told_run : Counted → List ℕ
told_run a = a.refusal ∷ a.count ∷ []

abbrev pub answers : List Example
answers =
    -- the table's numbers in its order; 0 is accepted, whatever comes with it
    ex (map number_of (Side ∷ Input ∷ Count ∷ Weight ∷ Threshold ∷ Order ∷ Room ∷ Budget ∷ State ∷ Pending ∷ Layout ∷ []))
    (1 ∷ 2 ∷ 3 ∷ 4 ∷ 5 ∷ 6 ∷ 7 ∷ 8 ∷ 9 ∷ 10 ∷ 11 ∷ [])
    ∷ ex (number {A = ℕ} (Ok 5) ∷ number {A = ℕ} (Err Room) ∷ []) (0 ∷ 7 ∷ [])
    -- a refused start's state is zero; a refused slice or map request hands the state back; a refused run counts 0
    ∷ ex (told_start (start_answer (Ok held_walk)) ++ told_start (start_answer (Err Order))) (0 ∷ 2 ∷ 3 ∷ 1 ∷ 6 ∷ 0 ∷ 0 ∷ 0 ∷ [])
    ∷ ex (told_slice (slice_answer held_walk (Ok (record { takes = 4; walk = record { width = 2; height = 3; pending = 0 } }))) ++ told_slice (slice_answer held_walk (Err Budget)))
    (0 ∷ 4 ∷ 2 ∷ 3 ∷ 0 ∷ 8 ∷ 0 ∷ 2 ∷ 3 ∷ 1 ∷ [])
    ∷ ex (told_map (map_answer {A = ℕ} held_walk (Ok 0)) ++ told_map (map_answer {A = ℕ} held_walk (Err Pending))) (0 ∷ 2 ∷ 3 ∷ 1 ∷ 10 ∷ 2 ∷ 3 ∷ 1 ∷ [])
    ∷ ex (told_run (run_answer (Ok 9)) ++ told_run (run_answer (Err Side))) (0 ∷ 9 ∷ 1 ∷ 0 ∷ [])
    ∷ []

-- ---- THE LIST OF SLIPS, by subject

unfoldable pub slips : List (List Example)
slips = borders ∷ sums ∷ filters ∷ gradients ∷ suppressed ∷ walks ∷ tests ∷ tables ∷ runs ∷ diagonals ∷ frames ∷ answers ∷ []

abbrev pub Every : List (List Example) → Type 0
Every [] = Unit
Every (l ∷ ls) = Hold l × Every ls
