-- The table of refusals (01.Refusal.1 to 01.Refusal.13): its rows, and for each public call the rows whose subject it has.
use Rattle.std.specs.Prelude.{ℕ, ◌*◌, ◌%◌, Bool, not, cond, ◌||◌, List, [], ◌∷◌, ltb, eqb, length, get_or, ℤ, pos, Float}
use Rattle.std.specs.Float.{nan}
use Rattle.std.specs.Float.Ieee.{lt}
use Rattle.std.specs.Float.Ieee.Scale.{finite}
use Rattle.rules.specs.Limits.{max_side, max_taps, max_kernel, max_window, max_threshold}
use Rattle.rules.specs.Picture.{entries, any_below}
use Rattle.rules.specs.Sums.{plus_zero, whole_f32}
use Rattle.rules.specs.Walk.{State, unusable}
use Rattle.rules.specs.declared.Size.{Size}
use Rattle.rules.specs.declared.Kernel.{Kernel}
use Rattle.rules.specs.declared.SeparableKernel.{SeparableKernel}
use Rattle.rules.specs.declared.Thresholds.{Thresholds}

-- a row of a table: a number, and when it applies
pub record Rule : Type 0 where
  pub number : ℕ
  pub applies : Bool

abbrev pub rule : ℕ → Bool → Rule
rule n b = record { number = n; applies = b }

-- the number of the first row that applies; 0, accepted, where none does
abbrev pub first : List Rule → ℕ
first [] = 0
first (r ∷ rs) = cond r.applies r.number (first rs)

-- ---- the rows

-- 1: a side is over 640; for resolving one coordinate, also a side of 0
abbrev pub side_row : Size → Rule
side_row d = rule 1 (ltb max_side d.width || ltb max_side d.height)

abbrev pub one_side_row : ℕ → Rule
one_side_row side = rule 1 (eqb side 0 || ltb max_side side)

-- 2: a lent input is not width times height long
abbrev pub input_row {ℓ} : {A : Type ℓ} → Size → List A → Rule
input_row d l = rule 2 (not (eqb (length l) (entries d)))

-- 3: a size is zero, even or too large, or the number of weights doesn't match
abbrev pub count_row : ℕ → ℕ → Rule
count_row most n = rule 3 (eqb n 0 || (eqb (n % 2) 0 || ltb most n))

abbrev pub match_row : ℕ → List Float → Rule
match_row n weights = rule 3 (not (eqb (length weights) n))

-- 4: a tap or weight is infinite or NaN
abbrev pub weight_row : List Float → Rule
weight_row weights = rule 4 (any_below (λ k. not (finite (get_or weights k nan))) (length weights))

-- 5: a threshold is not finite, below 0 or above 255; minus zero is not below 0
abbrev pub bad_threshold : Float → Bool
bad_threshold t = not (finite t) || (lt t plus_zero || lt (whole_f32 (pos max_threshold)) t)

abbrev pub threshold_row : Thresholds → Rule
threshold_row t = rule 5 (bad_threshold t.low || bad_threshold t.high)

-- 6: low is greater than high
abbrev pub order_row : Thresholds → Rule
order_row t = rule 6 (lt t.high t.low)

-- 7: a lent output or work buffer has fewer than width times height entries
abbrev pub room_row {ℓ} : {A : Type ℓ} → Size → List A → Rule
room_row d l = rule 7 (ltb (length l) (entries d))

-- 8: a slice's budget is 0
abbrev pub budget_row : ℕ → Rule
budget_row b = rule 8 (eqb b 0)

-- 9: a walk's state is unusable
abbrev pub state_row : Size → State → Rule
state_row d s = rule 9 (unusable d s)

-- 10: the map is asked for while pixels are pending
abbrev pub pending_row : State → Rule
pending_row s = rule 10 (not (eqb s.pending 0))

-- ---- the calls, each with its rows on one line, in the order in which they are tested: an edit that exchanges two is refused by Examples

abbrev pub coord_rows : ℕ → List Rule
coord_rows side = one_side_row side ∷ []

abbrev pub kernel_rows : Size → Kernel → List ℕ → List Float → List ℕ → List Rule
kernel_rows d k pixels weights out = side_row d ∷ input_row d pixels ∷ count_row max_kernel k.width ∷ count_row max_kernel k.height ∷ match_row (k.width * k.height) weights ∷ weight_row weights ∷ room_row d out ∷ []

abbrev pub separable_rows : Size → SeparableKernel → List ℕ → List Float → List Float → List Float → List ℕ → List Rule
separable_rows d k pixels horizontal vertical work out = side_row d ∷ input_row d pixels ∷ count_row max_taps k.horizontal ∷ count_row max_taps k.vertical ∷ match_row k.horizontal horizontal ∷ match_row k.vertical vertical ∷ weight_row horizontal ∷ weight_row vertical ∷ room_row d work ∷ room_row d out ∷ []

-- a blur's taps are counted by themselves
abbrev pub blur_rows : Size → List ℕ → List Float → List Float → List ℕ → List Rule
blur_rows d pixels taps work out = side_row d ∷ input_row d pixels ∷ count_row max_taps (length taps) ∷ weight_row taps ∷ room_row d work ∷ room_row d out ∷ []

abbrev pub box_rows : Size → List ℕ → List Float → List ℕ → List Rule
box_rows d pixels work out = side_row d ∷ input_row d pixels ∷ room_row d work ∷ room_row d out ∷ []

-- sharpen, and Sobel's filter
abbrev pub plain_rows : Size → List ℕ → List ℕ → List Rule
plain_rows d pixels out = side_row d ∷ input_row d pixels ∷ room_row d out ∷ []

abbrev pub median_rows : Size → ℕ → List ℕ → List ℕ → List Rule
median_rows d window pixels out = side_row d ∷ input_row d pixels ∷ count_row max_window window ∷ room_row d out ∷ []

abbrev pub gradient_rows : Size → List ℕ → List ℤ → List ℤ → List Rule
gradient_rows d pixels gx gy = side_row d ∷ input_row d pixels ∷ room_row d gx ∷ room_row d gy ∷ []

abbrev pub magnitude_rows : Size → List ℤ → List ℤ → List Float → List Rule
magnitude_rows d gx gy magnitude = side_row d ∷ input_row d gx ∷ input_row d gy ∷ room_row d magnitude ∷ []

abbrev pub suppression_rows : Size → List Float → List ℤ → List ℤ → List Float → List Rule
suppression_rows d magnitude gx gy out = side_row d ∷ input_row d magnitude ∷ input_row d gx ∷ input_row d gy ∷ room_row d out ∷ []

abbrev pub start_rows : Size → Thresholds → List Float → List ℕ → List ℕ → List Rule
start_rows d t magnitudes marks stack = side_row d ∷ input_row d magnitudes ∷ threshold_row t ∷ order_row t ∷ room_row d marks ∷ room_row d stack ∷ []

-- the sides are the state's own; marks and stack are work buffers
abbrev pub slice_rows : Size → ℕ → State → List Rule
slice_rows d budget s = side_row d ∷ room_row d s.marks ∷ room_row d s.stack ∷ budget_row budget ∷ state_row d s ∷ []

abbrev pub map_rows : Size → State → List ℕ → List Rule
map_rows d s out = side_row d ∷ room_row d s.marks ∷ room_row d s.stack ∷ room_row d out ∷ state_row d s ∷ pending_row s ∷ []

-- the scratch of a whole run: the horizontal pass and later the suppressed magnitudes; the magnitudes; both components; the blurred
-- bytes; the walk's marks and stack
pub record Scratch : Type 0 where
  pub work : List Float
  pub magnitude : List Float
  pub gx : List ℤ
  pub gy : List ℤ
  pub blurred : List ℕ
  pub marks : List ℕ
  pub stack : List ℕ

abbrev pub scratch : List Float → List Float → List ℤ → List ℤ → List ℕ → List ℕ → List ℕ → Scratch
scratch w m x y b k s = record { work = w; magnitude = m; gx = x; gy = y; blurred = b; marks = k; stack = s }

-- room for the scratch and the map
abbrev pub scratch_rows : Size → Scratch → List ℕ → List Rule
scratch_rows d s out = room_row d s.work ∷ room_row d s.magnitude ∷ room_row d s.gx ∷ room_row d s.gy ∷ room_row d s.blurred ∷ room_row d s.marks ∷ room_row d s.stack ∷ room_row d out ∷ []

-- the run's other rows, in front of those that ask for room
abbrev pub run_front : Size → List ℕ → List Float → Thresholds → List Rule → List Rule
run_front d pixels taps t rest = side_row d ∷ input_row d pixels ∷ count_row max_taps (length taps) ∷ weight_row taps ∷ threshold_row t ∷ order_row t ∷ rest

abbrev pub run_rows : Size → List ℕ → List Float → Thresholds → Scratch → List ℕ → List Rule
run_rows d pixels taps t s out = run_front d pixels taps t (scratch_rows d s out)
