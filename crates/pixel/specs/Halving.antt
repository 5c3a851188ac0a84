-- Sobel's byte by halving: the ends' table, and the bytes that a number may still have.
use Rattle.std.specs.Prelude.{◌≡◌, ℕ, ◌+◌, ◌<◌, ◌≤◌, cond, List, length, nat_lt, slice_index}
use Rattle.rules.specs.Picture.{tabulate}
use Rattle.rules.specs.Root.{upper_end, sobel_byte}

-- the 255 upper ends
unfoldable pub upper_ends : List ℕ
upper_ends = tabulate 255 upper_end

-- S in 16 bits: over the last end, 64,770, every number has byte 255
unfoldable pub held : ℕ → ℕ
held s = cond (nat_lt s 64771) s 64771

-- a table that has them
pub record Ends (ends : List ℕ) : Type 0 where
  pub count : length ends ≡ 255
  pub each : (n : ℕ) → n < 255 → slice_index ends n ≡ upper_end n

-- the byte of s is one of the w bytes from n on
pub record Among (s n w : ℕ) : Type 0 where
  pub bytes : n + w ≤ 256
  pub from : n ≤ sobel_byte s
  pub below : sobel_byte s < n + w

-- or of the 2 * b from n on, which are to be halved
pub record Halving (s n b : ℕ) : Type 0 where
  pub some : 0 < b
  pub among : Among s n (b + b)

-- where the table has the end to test a byte by: 255 has none, and is tested by the last
unfoldable pub place_of : ℕ → ℕ
place_of byte = cond (nat_lt byte 255) byte 254
