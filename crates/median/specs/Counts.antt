-- The median's private functions: counts of 256 byte values, moved by columns of the window, and the value that they select.
use Rattle.std.specs.Prelude.{ℕ, zero, suc, ◌+◌, ◌-◌, ◌/◌, ◌<◌, ◌≤◌, ◌≡◌, List, ltb, eqb, length, get_or, set, pos, ◌-ℤ◌}
use Rattle.rules.specs.Limits.{max_window}
use Rattle.rules.specs.Picture.{tally, by_pixel}
use Rattle.rules.specs.Border.{under}
use Rattle.rules.specs.Median.{median_at}
use Rattle.rules.specs.declared.Size.{Size}
use Rattle.rules.specs.declared.BorderMode.{BorderMode}
use Rattle.border.specs.Reading.{placed, read_in}
use Rattle.refusals.specs.Rows.{Picture}

-- the median's picture, by index
abbrev pub median_of : Size → ℕ → BorderMode → List ℕ → ℕ → ℕ
median_of d k mode pixels = by_pixel d (median_at d k mode pixels)

-- ---- samples by places

-- where row j of the window about row y is read, and column c, counted from the window's left-hand one at x
abbrev pub row_place : Size → ℕ → BorderMode → ℕ → ℕ → ℕ
row_place d k mode y j = placed mode (under y k j) d.height

abbrev pub column_place : Size → ℕ → BorderMode → ℕ → ℕ
column_place d k mode c = placed mode (pos c -ℤ pos (k / 2)) d.width

-- entry j of a column at place x
abbrev pub column_at : List ℕ → Size → List ℕ → ℕ → ℕ → ℕ
column_at pixels d rows x j = read_in pixels d x (get_or rows j 0)

-- ---- counts

-- g 0 + .. + g (n - 1)
unfoldable pub sum_of : (ℕ → ℕ) → ℕ → ℕ
sum_of g zero = 0
sum_of g (suc n) = sum_of g n + g n

-- how many of f 0, .., f (n - 1) are v, and how many are below it
abbrev pub equals : (ℕ → ℕ) → ℕ → ℕ → ℕ
equals f n v = tally (λ j. eqb (f j) v) n

abbrev pub belows : (ℕ → ℕ) → ℕ → ℕ → ℕ
belows f n v = tally (λ j. ltb (f j) v) n

-- how many counted values are below v
abbrev pub counted_below : List ℕ → ℕ → ℕ
counted_below counts v = sum_of (λ u. get_or counts u 0) v

-- the counts of f 0, .., f (n - 1) changed by g, one after another
unfoldable pub change_all : (ℕ → ℕ) → List ℕ → (ℕ → ℕ) → ℕ → List ℕ
change_all g counts f zero = counts
change_all g counts f (suc n) = set (change_all g counts f n) (f n) (g (get_or (change_all g counts f n) (f n) 0))

-- f 0, .., f (n - 1) counted in, and counted out
abbrev pub put_all : List ℕ → (ℕ → ℕ) → ℕ → List ℕ
put_all = change_all (λ c. c + 1)

abbrev pub take_all : List ℕ → (ℕ → ℕ) → ℕ → List ℕ
take_all = change_all (λ c. c - 1)

-- 256 counts, each at most `most`
pub record Counts (counts : List ℕ) (most : ℕ) : Type 0 where
  pub count : length counts ≡ 256
  pub small : (v : ℕ) → get_or counts v 0 ≤ most

-- what a column that is counted out asks: it is counted in
pub record Counted (counts : List ℕ) (f : ℕ → ℕ) (n value below : ℕ) : Type 0 where
  pub each : (v : ℕ) → equals f n v ≤ get_or counts v 0
  pub lower : belows f n value ≤ below

-- a value with the number of counted ones below it
pub record Middle (counts : List ℕ) (value below : ℕ) : Type 0 where
  pub byte : value < 256
  pub lower : below ≡ counted_below counts value

-- a value that item `item` of the counted ones, in order, has
pub record Selected (counts : List ℕ) (item value below : ℕ) : Type 0 where
  pub middle : Middle counts value below
  pub from : below ≤ item
  pub to : item < below + get_or counts value 0

-- ---- a row's windows, column by column: k rows and k columns, where k is how many places `rows` has

abbrev pub column_of : List ℕ → Size → BorderMode → List ℕ → ℕ → ℕ → ℕ
column_of pixels d mode rows c = column_at pixels d rows (column_place d (length rows) mode c)

-- how often v stands in the n columns from column x
abbrev pub in_columns : List ℕ → Size → BorderMode → List ℕ → ℕ → ℕ → ℕ → ℕ
in_columns pixels d mode rows x n v = sum_of (λ i. equals (column_of pixels d mode rows (x + i)) (length rows) v) n

-- the counts are those of n columns from column x
pub record Holds (pixels : List ℕ) (d : Size) (mode : BorderMode) (rows : List ℕ) (x n : ℕ) (counts : List ℕ) : Type 0 where
  pub count : length counts ≡ 256
  pub each : (v : ℕ) → get_or counts v 0 ≡ in_columns pixels d mode rows x n v

-- a picture with a pixel, and the places of a window's rows
pub record Rows (d : Size) (pixels rows : List ℕ) : Type 0 where
  pub picture : Picture d pixels
  pub wide : 0 < d.width
  pub some : 0 < length rows
  pub few : length rows ≤ max_window

-- which are those of the window about row y
pub record About (d : Size) (mode : BorderMode) (y : ℕ) (rows : List ℕ) : Type 0 where
  pub row : y < d.height
  pub each : (j : ℕ) → j < length rows → get_or rows j 0 ≡ row_place d (length rows) mode y j
