-- Convolution, the separable filters, box and sharpen: what stands at each pixel. One definition over a sampler serves bytes and f32.
use Rattle.std.specs.Prelude.{ℕ, ◌*◌, ◌/◌, ◌%◌, List, [], ◌∷◌, get_or, ℤ, pos, negsuc, Float}
use Rattle.std.specs.Float.{nan, binary32}
use Rattle.std.specs.Float.Ieee.{of_bits}
use Rattle.rules.specs.Picture.{by_pixel}
use Rattle.rules.specs.Border.{sample_at, under}
use Rattle.rules.specs.Sums.{plus_zero, whole_f32, ordered_sum, product, flipped, to_byte}
use Rattle.rules.specs.declared.Size.{Size}
use Rattle.rules.specs.declared.Kernel.{Kernel}
use Rattle.rules.specs.declared.SeparableKernel.{SeparableKernel}
use Rattle.rules.specs.declared.BorderMode.{BorderMode}

-- ---- the two entries of the Rust's `Sample` (01.Change.3): bytes, and f32 as they are

abbrev pub of_bytes : List ℕ → ℕ → Float
of_bytes pixels i = whole_f32 (pos (get_or pixels i 0))

abbrev pub of_floats : List Float → ℕ → Float
of_floats entries i = get_or entries i nan

-- the f32 sample at signed coordinates, of a picture whose entry i is `at i`
abbrev pub sampler : (ℕ → Float) → Size → BorderMode → ℤ → ℤ → Float
sampler at d mode = sample_at plus_zero at d mode

-- ---- convolution

-- Term j of the sum at (x, y): the kernel's places are counted row by row downwards, then left to right (01.Border.7).
unfoldable pub kernel_term : (ℤ → ℤ → Float) → Kernel → List Float → ℕ → ℕ → ℕ → Float
kernel_term sample k weights x y j =
    product (sample (under x k.width (j % k.width)) (under y k.height (j / k.width)))
    (flipped k weights (j % k.width) (j / k.width))

unfoldable pub kernel_sum : (ℤ → ℤ → Float) → Kernel → List Float → ℕ → ℕ → Float
kernel_sum sample k weights x y = ordered_sum (kernel_term sample k weights x y) (k.width * k.height)

-- the convolved byte at (x, y)
unfoldable pub convolved_at : Size → Kernel → BorderMode → List ℕ → List Float → ℕ → ℕ → ℕ
convolved_at d k mode pixels weights x y = to_byte (kernel_sum (sampler (of_bytes pixels) d mode) k weights x y)

-- ---- separable (01.Border.8): a kernel of one row, whose sums stay f32, then a kernel of one column, then one conversion

abbrev pub row_kernel : ℕ → Kernel
row_kernel n = record { width = n; height = 1 }

abbrev pub column_kernel : ℕ → Kernel
column_kernel n = record { width = 1; height = n }

-- the horizontal sum at (x, y) of a picture whose entry i is `at i`, and the vertical one
abbrev pub horizontal_at : Size → ℕ → BorderMode → List Float → (ℕ → Float) → ℕ → ℕ → Float
horizontal_at d n mode taps at x y = kernel_sum (sampler at d mode) (row_kernel n) taps x y

abbrev pub vertical_at : Size → ℕ → BorderMode → List Float → (ℕ → Float) → ℕ → ℕ → Float
vertical_at d n mode taps at x y = kernel_sum (sampler at d mode) (column_kernel n) taps x y

unfoldable pub separable_at : Size → SeparableKernel → BorderMode → List ℕ → List Float → List Float → ℕ → ℕ → ℕ
separable_at d k mode pixels horizontal vertical x y =
    to_byte (vertical_at d k.vertical mode vertical (by_pixel d (horizontal_at d k.horizontal mode horizontal (of_bytes pixels))) x y)

-- the same taps both ways (01.Walk.12)
abbrev pub both_ways : ℕ → SeparableKernel
both_ways n = record { horizontal = n; vertical = n }

-- ---- box (01.Border.10): three taps of the f32 nearest 1/3, both ways

abbrev pub third : Float
third = of_bits binary32 0x3eaa_aaab

abbrev pub box_taps : List Float
box_taps = third ∷ third ∷ third ∷ []

-- ---- sharpen (01.Border.11)

abbrev pub sharpen_kernel : Kernel
sharpen_kernel = record { width = 3; height = 3 }

abbrev pub sharpen_weights : List Float
sharpen_weights =
    let o = whole_f32 (pos 0) in
    let m = whole_f32 (negsuc 0) in
    let c = whole_f32 (pos 5) in
    o ∷ m ∷ o
    ∷ m ∷ c ∷ m
    ∷ o ∷ m ∷ o ∷ []
