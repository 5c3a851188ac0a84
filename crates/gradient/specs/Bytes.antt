-- Sobel's bytes of a block of sums: a byte for each, and the end by which the byte is tested.
use Rattle.std.specs.Prelude.{ℕ, ◌<◌, ◌≤◌, ◌≡◌, List, length, get_or}
use Rattle.rules.specs.Root.{upper_end, sobel_byte}
use Rattle.pixel.specs.Halving.{place_of}

-- the byte of entry i
abbrev pub byte_by : List ℕ → ℕ → ℕ
byte_by sums i = sobel_byte (get_or sums i 0)

-- the end to test a byte by
abbrev pub end_of : List ℕ → ℕ → ℕ
end_of bytes i = upper_end (place_of (get_or bytes i 0))

-- bytes to be tested: each has its sum and its end
pub record Tested (sums ends bytes : List ℕ) : Type 0 where
  pub enough_sums : length bytes ≤ length sums
  pub enough_ends : length bytes ≤ length ends
  pub each : (i : ℕ) → i < length bytes → get_or ends i 0 ≡ end_of bytes i
