-- The limits, each named once (01.Take.5, 01.Frame.3). The code's own constants are in src/.
use Rattle.std.specs.Prelude.{ℕ, ◌*◌}

-- each side of a picture
abbrev pub max_side : ℕ
max_side = 640

-- the pixels of the largest picture: large enough for a count of pixels, and for a place of one
abbrev pub max_area : ℕ
max_area = max_side * max_side

-- taps each way; sides of a two-dimensional kernel; the median's window
abbrev pub max_taps : ℕ
max_taps = 63

abbrev pub max_kernel : ℕ
max_kernel = 15

abbrev pub max_window : ℕ
max_window = 15

-- a threshold
abbrev pub max_threshold : ℕ
max_threshold = 255

-- the sides of a frame file's picture, and its length in bytes
abbrev pub max_frame_side : ℕ
max_frame_side = 48

abbrev pub max_frame_length : ℕ
max_frame_length = 2588
