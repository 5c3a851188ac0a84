-- The whole run (01.Walk.12, 01.Walk.13): blur, gradient, magnitude, suppression, a walk to its end, the map and its count.
use Rattle.std.specs.Prelude.{ℕ, ◌+◌, List, eqb, length, get_or, ℤ, pos, Float}
use Rattle.rules.specs.Picture.{area, tabulate, zeros, in_row_order, filled, cleared, tally}
use Rattle.rules.specs.Sums.{plus_zero}
use Rattle.rules.specs.Filters.{separable_at, both_ways}
use Rattle.rules.specs.Gradient.{gx_table, gy_table, gradient_at}
use Rattle.rules.specs.Sector.{neighbours}
use Rattle.rules.specs.Suppression.{Table, floats, suppressed_by}
use Rattle.rules.specs.Walk.{State, sliced, edge}
use Rattle.rules.specs.Accepted.{Room}
use Rattle.rules.specs.Refusals.{first, run_rows, Scratch}
use Rattle.rules.specs.Calls.{accepted, magnitude_at, after_start}
use Rattle.rules.specs.declared.Size.{Size}
use Rattle.rules.specs.declared.Thresholds.{Thresholds}
use Rattle.rules.specs.Answers.{Counted}
use Rattle.rules.specs.declared.BorderMode.TheVariants.{Clamp}

-- the stages, each a picture in row order made from the one before
unfoldable pub blurred_of : Size → List ℕ → List Float → List ℕ
blurred_of d pixels taps = in_row_order d (separable_at d (both_ways (length taps)) Clamp pixels taps taps)

unfoldable pub component_of : List ℤ → Size → List ℕ → List ℤ
component_of table d blurred = in_row_order d (gradient_at table d Clamp blurred)

unfoldable pub magnitudes_of : Size → List ℤ → List ℤ → List Float
magnitudes_of d gx gy = tabulate (area d) (magnitude_at gx gy)

-- the last of them by any neighbour table
unfoldable pub suppressed_under : Table → Size → List ℕ → List Float → List Float
suppressed_under table d pixels taps =
    let blurred = blurred_of d pixels taps in
    let gx = component_of gx_table d blurred in
    let gy = component_of gy_table d blurred in
    let magnitudes = magnitudes_of d gx gy in
    in_row_order d (suppressed_by floats table d magnitudes gx gy)

abbrev pub suppressed_of : Size → List ℕ → List Float → List Float
suppressed_of = suppressed_under neighbours

-- A walk to its end, from a start over empty buffers. Each take finishes a pixel, so a budget of width * height + 1 ends it; the one more
-- keeps a picture of no pixels from being refused 8.
unfoldable pub end_of : Size → Thresholds → List Float → State
end_of d t magnitudes =
    sliced d (area d + 1) (after_start d t magnitudes (zeros (area d)) (zeros (area d)))

-- the map of a walk to its end, and its count of 255s
unfoldable pub edges_of : Size → Thresholds → List Float → List ℕ
edges_of d t magnitudes =
    let marks = (end_of d t magnitudes).marks in
    tabulate (area d) (λ q. edge (get_or marks q 0))

unfoldable pub count_of : Size → List ℕ → ℕ
count_of d edges = tally (λ q. eqb (get_or edges q 0) 255) (area d)

unfoldable pub run_edges : Size → List ℕ → List Float → Thresholds → List ℕ
run_edges d pixels taps t = edges_of d t (suppressed_of d pixels taps)

-- every scratch buffer's first width * height entries zero
abbrev pub cleared_scratch : Size → Scratch → Scratch
cleared_scratch d s =
    record {
      work = cleared (area d) plus_zero s.work;
      magnitude = cleared (area d) plus_zero s.magnitude;
      gx = cleared (area d) (pos 0) s.gx;
      gy = cleared (area d) (pos 0) s.gy;
      blurred = cleared (area d) 0 s.blurred;
      marks = cleared (area d) 0 s.marks;
      stack = cleared (area d) 0 s.stack;
    }

-- what a whole run answers and leaves: the count, the map, the scratch
unfoldable pub canny : Size → List ℕ → List Float → Thresholds → Scratch → List ℕ → Counted × (List ℕ × Scratch)
canny d pixels taps t s out =
    let number = first (run_rows d pixels taps t s out) in
    let edges = run_edges d pixels taps t in
    accepted number
    (record { refusal = number; count = count_of d edges }, (filled (area d) (λ q. get_or edges q 0) out, cleared_scratch d s))
    (record { refusal = number; count = 0 }, (out, s))

-- room in every lent buffer: at least width * height entries, of any values
pub record Roomy (d : Size) (s : Scratch) (map : List ℕ) : Type 0 where
  pub work : Room d s.work
  pub magnitude : Room d s.magnitude
  pub gx : Room d s.gx
  pub gy : Room d s.gy
  pub blurred : Room d s.blurred
  pub marks : Room d s.marks
  pub stack : Room d s.stack
  pub room : Room d map
