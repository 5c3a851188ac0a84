-- The frame file and its printout, as bytes (01.Frame.1 to 01.Frame.7).
use Rattle.std.specs.Prelude.{ℕ, zero, suc, ◌+◌, ◌*◌, ◌/◌, ◌%◌, ◌≡◌, Bool, not, cond, ◌||◌, List, [], ◌∷◌, ◌++◌, ltb, eqb, length, get_or, take, drop, pos, Float}
use Rattle.std.specs.Float.{binary32}
use Rattle.std.specs.Float.Ieee.{of_bits}
use Rattle.rules.specs.Limits.{max_frame_side, max_frame_length}
use Rattle.rules.specs.Picture.{area, tabulate, zeros}
use Rattle.rules.specs.Sums.{plus_zero}
use Rattle.rules.specs.Refusals.{Scratch}
use Rattle.rules.specs.Run.{canny}
use Rattle.rules.specs.declared.Size.{Size}
use Rattle.rules.specs.declared.Thresholds.{Thresholds}

-- ---- the layout

-- the little-endian 32-bit word at byte `at`, and word k of the header
abbrev pub word_at : List ℕ → ℕ → ℕ
word_at file at = get_or file at 0 + 256 * (get_or file (at + 1) 0 + 256 * (get_or file (at + 2) 0 + 256 * get_or file (at + 3) 0))

abbrev pub header_word : List ℕ → ℕ → ℕ
header_word file k = word_at file (4 * k)

-- width, height; the tap count; the offsets of taps and pixels; the thresholds' bits; the file's length
abbrev pub frame_size : List ℕ → Size
frame_size file = record { width = header_word file 0; height = header_word file 1 }

abbrev pub tap_count : List ℕ → ℕ
tap_count file = header_word file 2

abbrev pub taps_offset : List ℕ → ℕ
taps_offset file = header_word file 3

abbrev pub pixel_offset : List ℕ → ℕ
pixel_offset file = header_word file 4

abbrev pub thresholds_of : List ℕ → Thresholds
thresholds_of file = record { low = of_bits binary32 (header_word file 5); high = of_bits binary32 (header_word file 6) }

abbrev pub length_word : List ℕ → ℕ
length_word file = header_word file 7

abbrev pub header_length : ℕ
header_length = 32

-- any breach of the layout
unfoldable pub breach : List ℕ → Bool
breach file =
    ltb (length file) header_length
    || (ltb max_frame_side (frame_size file).width
    || (ltb max_frame_side (frame_size file).height
    || (not (eqb (taps_offset file) header_length)
    || (not (eqb (pixel_offset file) (header_length + 4 * tap_count file))
    || (not (eqb (length_word file) (pixel_offset file + area (frame_size file)))
    || (not (eqb (length_word file) (length file))
    || ltb max_frame_length (length file)))))))

-- taps as f32 bits, then the pixels to the end of the file
unfoldable pub frame_taps : List ℕ → List Float
frame_taps file = tabulate (tap_count file) (λ k. of_bits binary32 (word_at file (header_length + 4 * k)))

unfoldable pub frame_pixels : List ℕ → List ℕ
frame_pixels file = drop (pixel_offset file) file

-- ---- the printout

abbrev pub newline : ℕ
newline = 10

abbrev pub space : ℕ
space = 32

-- a number in decimal digits; it has at most n + 1 of them
unfoldable pub decimal_by : ℕ → ℕ → List ℕ
decimal_by zero n = []
decimal_by (suc most) n =
    let before = decimal_by most (n / 10) in
    cond (ltb n 10) ((48 + n) ∷ []) (before ++ ((48 + n % 10) ∷ []))

unfoldable pub decimal : ℕ → List ℕ
decimal n = decimal_by (suc n) n

-- "refused N"
unfoldable pub refused_text : ℕ → List ℕ
refused_text n =
    (114 ∷ 101 ∷ 102 ∷ 117 ∷ 115 ∷ 101 ∷ 100 ∷ space ∷ []) ++ (decimal n ++ (newline ∷ []))

-- "edges W H COUNT"
unfoldable pub edges_text : Size → ℕ → List ℕ
edges_text d count =
    (101 ∷ 100 ∷ 103 ∷ 101 ∷ 115 ∷ space ∷ [])
    ++ (decimal d.width
    ++ ((space ∷ []) ++ (decimal d.height ++ ((space ∷ []) ++ (decimal count ++ (newline ∷ []))))))

-- '#' for 255, '.' for the others
abbrev pub pixel_text : ℕ → ℕ
pixel_text v = cond (eqb v 255) 35 46

-- height rows of width characters, a newline after each
unfoldable pub rows_text : Size → List ℕ → List ℕ
rows_text d edges =
    let line = d.width + 1 in
    tabulate (d.height * line)
    (λ i. cond (ltb (i % line) d.width) (pixel_text (get_or edges (i / line * d.width + i % line) 0)) newline)

-- buffers for one run; the run gives the same whatever they hold
abbrev pub fresh_scratch : Size → Scratch
fresh_scratch d =
    let n = area d in
    record {
      work = tabulate n (λ i. plus_zero);
      magnitude = tabulate n (λ i. plus_zero);
      gx = tabulate n (λ i. pos 0);
      gy = tabulate n (λ i. pos 0);
      blurred = zeros n;
      marks = zeros n;
      stack = zeros n;
    }

-- what is printed for a frame file of any bytes: a breach is 11 and comes first, then the library's number, else the edges
unfoldable pub run_text : List ℕ → List ℕ
run_text file =
    let d = frame_size file in
    let run = canny d (frame_pixels file) (frame_taps file) (thresholds_of file) (fresh_scratch d) (zeros (area d)) in
    cond (eqb run.0.refusal 0) (edges_text d run.0.count ++ rows_text d run.1.0) (refused_text run.0.refusal)

unfoldable pub printout : List ℕ → List ℕ
printout file = let text = run_text file in cond (breach file) (refused_text 11) text

-- what is returned and left where a text p is written into a lent one: its length, and p, behind which the lent text stays
abbrev pub placed : List ℕ → List ℕ → ℕ × List ℕ
placed p text = (length p, p ++ drop (length p) text)

-- what the frame call returns and leaves: the printout of what was read, which is the first `read` bytes of the file, all of them where
-- `read` is more
unfoldable pub printed : List ℕ → ℕ → List ℕ → ℕ × List ℕ
printed file read text = placed (printout (take read file)) text

-- ---- the room for a file

-- one byte more than the largest file, so that a file that is too long is seen to be
abbrev pub file_room : ℕ
file_room = max_frame_length + 1

-- so no more of a file need be read: the printout of what has room is the whole file's (proofs/Frames)
abbrev pub RoomDecides : Type 0
RoomDecides = (file : List ℕ) → printout file ≡ printout (take file_room file)
