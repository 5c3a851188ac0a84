-- What an accepted run lends its stages, and what they leave in it.
use Rattle.std.specs.Prelude.{ℕ, ◌≡◌, false, List, length, get_or, take, drop, ℤ, Float}
use Rattle.std.specs.Float.{nan}
use Rattle.rules.specs.Limits.{max_taps}
use Rattle.rules.specs.Picture.{area, filled}
use Rattle.rules.specs.Accepted.{Input, Room}
use Rattle.rules.specs.Refusals.{Scratch, first, side_row, count_row, weight_row, start_rows}
use Rattle.rules.specs.Run.{suppressed_of, edges_of, run_edges, count_of, cleared_scratch}
use Rattle.rules.specs.declared.Size.{Size}
use Rattle.rules.specs.declared.Thresholds.{Thresholds}

-- what the stages up to suppression know
pub record Run (d : Size) (pixels : List ℕ) (taps work magnitude : List Float) (gx gy : List ℤ) (blurred : List ℕ) : Type 0 where
  pub sides : (side_row d).applies ≡ false
  pub long : Input d pixels
  pub counted : (count_row max_taps (length taps)).applies ≡ false
  pub weighed : (weight_row taps).applies ≡ false
  pub work_room : Room d work
  pub magnitude_room : Room d magnitude
  pub gx_room : Room d gx
  pub gy_room : Room d gy
  pub blurred_room : Room d blurred

-- and leave: the suppressed magnitudes, and nothing changed past the picture
pub record Suppressed (d : Size) (pixels : List ℕ) (taps work magnitude : List Float) (gx gy : List ℤ) (blurred : List ℕ)
    (work' magnitude' : List Float) (gx' gy' : List ℤ) (blurred' : List ℕ) : Type 0 where
  pub is : work' ≡ filled (area d) (λ i. get_or (suppressed_of d pixels taps) i nan) work
  pub magnitude_kept : drop (area d) magnitude' ≡ drop (area d) magnitude
  pub gx_kept : drop (area d) gx' ≡ drop (area d) gx
  pub gy_kept : drop (area d) gy' ≡ drop (area d) gy
  pub blurred_kept : drop (area d) blurred' ≡ drop (area d) blurred

-- what the walk knows
pub record Walkable (d : Size) (t : Thresholds) (suppressed : List Float) (marks stack out : List ℕ) : Type 0 where
  pub accepted : first (start_rows d t (take (area d) suppressed) marks stack) ≡ 0
  pub long : Room d suppressed
  pub room : Room d out

-- and leaves
pub record Walked (d : Size) (t : Thresholds) (suppressed : List Float) (marks stack out marks' stack' out' : List ℕ) : Type 0 where
  pub is : out' ≡ filled (area d) (λ q. get_or (edges_of d t (take (area d) suppressed)) q 0) out
  pub marks_kept : drop (area d) marks' ≡ drop (area d) marks
  pub stack_kept : drop (area d) stack' ≡ drop (area d) stack

-- what an accepted run answers and leaves
abbrev pub accepted : Size → List ℕ → List Float → Thresholds → Scratch → List ℕ → ℕ × (List ℕ × Scratch)
accepted d pixels taps t s out =
    let edges = run_edges d pixels taps t in
    (count_of d edges, (filled (area d) (λ q. get_or edges q 0) out, cleared_scratch d s))
