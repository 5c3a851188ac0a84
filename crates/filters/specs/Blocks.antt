-- Sums of neighbouring pixels, a weight at a time.
use Rattle.std.specs.Prelude.{ℕ, ◌+◌, ◌-◌, ◌*◌, ◌<◌, ◌≤◌, ◌≡◌, List, length, get_or, pos, ◌-ℤ◌, Float, ℤ}
use Rattle.std.specs.Float.{nan, binary32}
use Rattle.std.specs.Float.Ieee.{add}
use Rattle.rules.specs.Limits.{max_taps}
use Rattle.rules.specs.Accepted.{Sides, Room}
use Rattle.rules.specs.Border.{resolved}
use Rattle.rules.specs.Sums.{plus_zero, product}
use Rattle.rules.specs.Filters.{sampler, kernel_sum}
use Rattle.rules.specs.declared.Size.{Size}
use Rattle.rules.specs.declared.Kernel.{Kernel}
use Rattle.rules.specs.declared.BorderMode.{BorderMode}
use Rattle.rules.specs.declared.Coord.{Coord}
use Rattle.rules.specs.declared.Coord.TheVariants.{At, Nothing, Refused}

-- entry i of the sums `o` once sample v i times a weight is added
abbrev pub added : List Float → (ℕ → Float) → Float → ℕ → Float
added o v weight i = add binary32 (get_or o i nan) (product (v i) weight)

-- ---- what a picture's entries count, one definition for bytes and f32: rules/specs/Filters has its two instances, `of_bytes` and `of_floats`

abbrev pub samples_of : {A : Type 0} → (A → Float) → A → List A → ℕ → Float
samples_of value missing entries i = value (get_or entries i missing)

abbrev pub sampled : {A : Type 0} → (A → Float) → A → List A → Size → BorderMode → ℤ → ℤ → Float
sampled value missing entries d mode = sampler (samples_of value missing entries) d mode

-- the sum at (x, y)
abbrev pub sum_at : {A : Type 0} → (A → Float) → A → List A → Size → Kernel → List Float → BorderMode → ℕ → ℕ → Float
sum_at value missing entries d k weights mode = kernel_sum (sampled value missing entries d mode) k weights

-- a row's sample at a resolved coordinate
abbrev pub read_row : (ℕ → Float) → Coord → Float
read_row v (At i) = v i
read_row v Nothing = plus_zero
read_row v Refused = plus_zero

-- and at coordinate at - half
unfoldable pub row_at : {A : Type 0} → (A → Float) → A → List A → BorderMode → ℕ → ℕ → Float
row_at value missing row mode at half =
    read_row (samples_of value missing row) (resolved mode (pos at -ℤ pos half) (length row))

-- of n coordinates from at - half on, those from lo to hi are a row's own columns, from s on
pub record Inner (at half width n lo hi s : ℕ) : Type 0 where
  pub rising : lo ≤ hi
  pub last : hi ≤ n
  pub in_row : s + (hi - lo) ≤ width
  pub column : lo < hi → s + half ≡ at + lo

-- ---- a kernel over a picture, both within their limits

pub record Kernelled {A : Type 0} (d : Size) (k : Kernel) (entries : List A) (weights : List Float) : Type 0 where
  pub sides : Sides d
  pub long : Room d entries
  pub kernel_wide : 0 < k.width
  pub kernel_high : 0 < k.height
  pub kernel_width : k.width ≤ max_taps
  pub kernel_height : k.height ≤ max_taps
  pub count : length weights ≡ k.width * k.height

-- pixels from column x of row y on, as many as there are sums
pub record Block (d : Size) (x y : ℕ) (sums : List Float) : Type 0 where
  pub row : y < d.height
  pub columns : x + length sums ≤ d.width

-- how many sums are kept at a time, where they have no lent place
abbrev pub block_length : ℕ
block_length = 108
