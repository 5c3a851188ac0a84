-- The nine bytes about a pixel, from the rows that they stand in.
use Rattle.std.specs.Prelude.{ℕ, ◌+◌, ◌-◌, ◌*◌, ◌/◌, ◌%◌, ◌<◌, ◌≤◌, cond, List, [], ◌∷◌, ltb, length, get_or, take, drop}
use Rattle.rules.specs.Limits.{max_side}
use Rattle.rules.specs.Picture.{tabulate}
use Rattle.rules.specs.Border.{byte_sample, under}
use Rattle.rules.specs.declared.Size.{Size}
use Rattle.rules.specs.declared.BorderMode.{BorderMode}
use Rattle.border.specs.Reading.{placed}

-- the nine bytes about (x, y), through the border
unfoldable pub nine_about : Size → BorderMode → List ℕ → ℕ → ℕ → List ℕ
nine_about d mode pixels x y = tabulate 9 (λ j. byte_sample pixels d mode (under x 3 (j % 3)) (under y 3 (j / 3)))

-- ---- rows

-- row p of a picture; no bytes where p is nowhere
unfoldable pub row_in : Size → List ℕ → ℕ → List ℕ
row_in d pixels p = cond (ltb p d.height) (take d.width (drop (p * d.width) pixels)) []

-- three rows, and the border through which they are read
pub record Three : Type 0 where
  pub mode : BorderMode
  pub above : List ℕ
  pub row : List ℕ
  pub below : List ℕ

-- those about row y of a picture
unfoldable pub three_about : Size → BorderMode → List ℕ → ℕ → Three
three_about d mode pixels y =
    record {
      mode = mode;
      above = row_in d pixels (placed mode (under y 3 0) d.height);
      row = row_in d pixels y;
      below = row_in d pixels (placed mode (under y 3 2) d.height);
    }

-- nine bytes of three rows, by the places of three columns; a byte that a row does not have is 0
abbrev pub nine_of : Three → ℕ → ℕ → ℕ → List ℕ
nine_of t left x right =
    get_or t.above left 0 ∷ get_or t.above x 0 ∷ get_or t.above right 0
    ∷ get_or t.row left 0 ∷ get_or t.row x 0 ∷ get_or t.row right 0
    ∷ get_or t.below left 0 ∷ get_or t.below x 0 ∷ get_or t.below right 0 ∷ []

-- those about column x
unfoldable pub nine_in : Three → ℕ → List ℕ
nine_in t x = let w = length t.row in nine_of t (placed t.mode (under x 3 0) w) x (placed t.mode (under x 3 2) w)

-- n columns from column x on, each with both columns beside it in every row
pub record HasBeside (t : Three) (x n : ℕ) : Type 0 where
  pub left : 0 < x
  pub in_above : x + n < length t.above
  pub in_row : x + n < length t.row
  pub in_below : x + n < length t.below

-- of n columns from column `from` on those that have, from lo to hi
pub record InnerColumns (t : Three) (from n lo hi : ℕ) : Type 0 where
  pub small : from + n ≤ max_side
  pub order : lo ≤ hi
  pub within : hi ≤ n
  pub beside : lo < hi → HasBeside t (from + lo) (hi - lo)
