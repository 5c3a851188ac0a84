-- The rows that every filter's table begins with.
use Rattle.std.specs.Prelude.{ℕ, List, [], ◌∷◌}
use Rattle.rules.specs.Accepted.{Sides, Input}
use Rattle.rules.specs.Refusals.{Rule, side_row, input_row}
use Rattle.rules.specs.declared.Size.{Size}

-- rows 1 and 2
abbrev pub picture_rows : Size → List ℕ → List Rule
picture_rows d pixels = side_row d ∷ input_row d pixels ∷ []

-- a lent picture of an accepted call: a side of 0 is one too
pub record Picture (d : Size) (pixels : List ℕ) : Type 0 where
  pub sides : Sides d
  pub long : Input d pixels
