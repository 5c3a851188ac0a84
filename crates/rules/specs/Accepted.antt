-- What an accepted call knows of what it is lent: the fact that keeps a row of its table from applying (proofs/Rows has the laws). Records
-- that say what an accepted call has are made of these.
use Rattle.std.specs.Prelude.{◌≤◌, ◌≡◌, List, length}
use Rattle.rules.specs.Limits.{max_side, max_area}
use Rattle.rules.specs.Picture.{area, entries}
use Rattle.rules.specs.declared.Size.{Size}

-- row 1: no side is over the limit, so there are not too many pixels; a side of 0 is fine
pub record Sides (d : Size) : Type 0 where
  pub width : d.width ≤ max_side
  pub height : d.height ≤ max_side
  pub small : area d ≤ max_area

-- row 2: a lent input has an entry for each of the picture's, and no more
abbrev pub Input : {A : Type 0} → Size → List A → Type 0
Input d l = length l ≡ entries d

-- row 7: a lent output or work buffer has as many entries, or more
abbrev pub Room : {A : Type 0} → Size → List A → Type 0
Room d l = entries d ≤ length l
