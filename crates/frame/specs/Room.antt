-- How much room a printout takes, and what the functions that write it require.
use Rattle.std.specs.Prelude.{ℕ, ◌+◌, ◌*◌, ◌<◌, ◌≤◌, List, length}
use Rattle.rules.specs.Limits.{max_frame_side}
use Rattle.rules.specs.Picture.{area}
use Rattle.rules.specs.Frame.{printout}
use Rattle.rules.specs.declared.Size.{Size}

-- the longest printout: "edges 48 48 2304", its newline, and 48 rows of 49 bytes
abbrev pub text_room : ℕ
text_room = 2369

-- every file's printout has room (proofs/Suffices)
abbrev pub TextFits : Type 0
TextFits = (file : List ℕ) → length (printout file) ≤ text_room

-- sides of at most 48, and a count of four digits
pub record Small (d : Size) (count : ℕ) : Type 0 where
  pub wide : d.width ≤ max_frame_side
  pub high : d.height ≤ max_frame_side
  pub few : count < 10000

-- a map and room for its rows
pub record Rows (d : Size) (map text : List ℕ) : Type 0 where
  pub wide : d.width ≤ max_frame_side
  pub high : d.height ≤ max_frame_side
  pub whole : area d ≤ length map
  pub room : d.height * (d.width + 1) ≤ length text

-- a map and a count of edges to be printed
pub record Shown (d : Size) (count : ℕ) (map text : List ℕ) : Type 0 where
  pub small : Small d count
  pub whole : area d ≤ length map
  pub room : text_room ≤ length text
