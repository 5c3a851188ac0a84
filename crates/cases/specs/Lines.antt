-- A text read line by line.
use Rattle.std.specs.Prelude.{◌≡◌, List, ℕ, ◌<◌, ltb, leb, eqb, ◌&&◌, cond, length, get_or, slice_range, []}

-- a later place, as long as there is text
abbrev pub Onward : List ℕ → ℕ → ℕ → Type 0
Onward text from to = from < length text → from < to

-- a line's numbers, 80 of them, and the place of the next line
pub record Case (text : List ℕ) (from to : ℕ) (numbers : List ℕ) : Type 0 where
  pub full : 80 ≡ length numbers
  pub onward : Onward text from to

-- what stands from one place to another, nothing where they are not two places of the text
abbrev pub part_of : List ℕ → ℕ → ℕ → List ℕ
part_of text from to = cond (leb to (length text) && leb from to) (slice_range text from to) []

-- the line that stands there, nothing where it is a remark
abbrev pub line_of : List ℕ → ℕ → ℕ → List ℕ
line_of text from to = cond (ltb from (length text) && eqb (get_or text from 0) 35) [] (part_of text from to)
