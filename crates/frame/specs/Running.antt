-- What one run over scratch of its own answers and leaves, and what the functions that make it require.
use Rattle.std.specs.Prelude.{ℕ, ◌*◌, ◌≤◌, ◌≡◌, false, List, ◌++◌, length, Float}
use Rattle.rules.specs.Limits.{max_taps, max_frame_side}
use Rattle.rules.specs.Picture.{area}
use Rattle.rules.specs.Refusals.{Scratch}
use Rattle.rules.specs.Run.{canny}
use Rattle.rules.specs.Frame.{breach, tap_count, fresh_scratch, header_length, frame_size, edges_text, rows_text, printout}
use Rattle.frame.specs.Room.{Small}
use Rattle.rules.specs.declared.Size.{Size}
use Rattle.rules.specs.declared.Thresholds.{Thresholds}
use Rattle.rules.specs.Answers.{Counted}

-- the answer and the map, without the scratch
abbrev pub shown : Counted × (List ℕ × Scratch) → Counted × List ℕ
shown a = (a.0, a.1.0)

unfoldable pub ran : Size → List ℕ → List Float → Thresholds → List ℕ → Counted × List ℕ
ran d pixels taps t out = shown (canny d pixels taps t (fresh_scratch d) out)

-- the pixels of the largest frame
abbrev pub max_frame_area : ℕ
max_frame_area = max_frame_side * max_frame_side

pub record Sized (d : Size) (map : List ℕ) : Type 0 where
  pub small : area d ≤ max_frame_area
  pub room : max_frame_area ≤ length map

-- a file that keeps the layout, and its tap count, which a run takes
pub record Tapped (file : List ℕ) (count : ℕ) : Type 0 where
  pub keeps : breach file ≡ false
  pub counted : count ≡ tap_count file
  pub few : count ≤ max_taps

-- such a file, and a map of as many entries as the largest
pub record Framed (file : List ℕ) (count : ℕ) (map : List ℕ) : Type 0 where
  pub keeps : breach file ≡ false
  pub counted : count ≡ tap_count file
  pub few : count ≤ max_taps
  pub room : max_frame_area ≤ length map

-- a file that is printed as edges, with their map and their count
pub record Edges (file map : List ℕ) (count : ℕ) : Type 0 where
  pub header : header_length ≤ length file
  pub small : Small (frame_size file) count
  pub whole : area (frame_size file) ≤ length map
  pub is : printout file ≡ edges_text (frame_size file) count ++ rows_text (frame_size file) map
