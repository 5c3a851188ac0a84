-- The float at which a magnitude is guessed and the test that it must pass, and the guess of Sobel's byte, step by step as the code works
-- them out. No stage's contract speaks of them: they are here so that a guess can be tried by itself, before anything is mended.
use Rattle.std.specs.Prelude.{◌≡◌, ℕ, ◌+◌, ◌-◌, ◌*◌, ◌/◌, ◌%◌, ◌^◌, ◌<◌, ◌≤◌, Bool, true, cond, ◌&&◌, ◌||◌, pos, ◌==◌, from_bits, nat_le, nat_lt, to_bits, Float}
use Rattle.std.specs.Float.{binary32}
use Rattle.std.specs.Float.Ieee.{add, sub, mul, div, lt, le}
use Rattle.rules.specs.Sums.{plus_zero, whole_f32}
use Rattle.rules.specs.Root.{cap_s, magnitude_of}

-- from this S on every guess is that of the cap
abbrev pub capped_s : ℕ → ℕ
capped_s s = cond (nat_lt s cap_s) s cap_s

-- half the exponent, and a number that brings the digits near
unfoldable pub first_guess : Float → Float
first_guess f = cond (lt plus_zero f) (from_bits binary32 (to_bits binary32 f / 2 % 1073741824 + 532487669)) (from_bits binary32 0x3f80_0000)

-- one of Heron's steps from a towards the root of f
abbrev pub heron : Float → Float → Float
heron f a = mul binary32 (add binary32 a (div binary32 f a)) (from_bits binary32 0x3f00_0000)

-- the upper half of the digits of y; 4097 is 2^12 + 1
abbrev pub upper_half : Float → Float
upper_half y =
    let wide = mul binary32 y (from_bits binary32 0x4580_0800) in
    sub binary32 wide (sub binary32 wide y)

-- what of f the square of y = high + low leaves
abbrev pub rest_of : Float → Float → Float → Float
rest_of f high low =
    sub binary32 (sub binary32 (sub binary32 f (mul binary32 high high)) (mul binary32 (mul binary32 (from_bits binary32 0x4000_0000) high) low))
    (mul binary32 low low)

-- y mended by what its square leaves
abbrev pub last_step : Float → Float → Float
last_step f y =
    let high = upper_half y in
    add binary32 y (div binary32 (rest_of f high (sub binary32 y high)) (add binary32 y y))

unfoldable pub guess_of : ℕ → Float
guess_of s =
    let f = whole_f32 (pos (capped_s s)) in
    cond (s == 0) plus_zero (last_step f (heron f (heron f (first_guess f))))

-- a float's lowest eight bits
unfoldable pub low_byte : Float → ℕ
low_byte z = cond (lt plus_zero z) (to_bits binary32 z % 256) 0

-- of Sobel's byte: Heron's steps, and 2^23 more, so that the lowest bits are the nearest whole number
unfoldable pub byte_guess : ℕ → ℕ
byte_guess s =
    let f = whole_f32 (pos s) in
    low_byte (add binary32 (heron f (heron f (first_guess f))) (from_bits binary32 0x4b00_0000))

-- ---- the test, in whole numbers

-- whether m² + m reaches t * 2^32 by less than 2m
abbrev pub near_test : ℕ → ℕ → Bool
near_test t m = m * (m + 1) / 2 ^ 32 == t && nat_lt (m * (m + 1) % 2 ^ 32) (2 * m)

-- whether b are the bits of the root of an s below the cap
abbrev pub root_test : ℕ → ℕ → Bool
root_test s b =
    ((nat_lt s cap_s && nat_le 0x3f80_0000 b) && nat_lt b 0x4380_0000)
    && near_test (s * 2 ^ (2 * (7 - (b / 8388608 + 1) % 8)) % 2 ^ 32) (b % 8388608 + 8388608)

-- or of the magnitude of any
unfoldable pub bits_test : ℕ → ℕ → Bool
bits_test s b = ((s == 0 && b == 0) || (nat_le cap_s s && b == 0x437f_0000)) || root_test s b

-- the bits of a float from +0 or -0 on; 1 for any other
unfoldable pub bits_from : Float → ℕ
bits_from y = cond (le plus_zero y) (to_bits binary32 y) 1

-- a guess tried: it passes the test, and what passes is the magnitude
pub record Tried (s : ℕ) (r : Bool) : Type 0 where
  pub is : r ≡ bits_test s (bits_from (guess_of s))
  pub means : r ≡ true → guess_of s ≡ magnitude_of s

-- the bits of a magnitude: 1, which stands for what has none, is never told of
pub record BitsOf (s b : ℕ) : Type 0 where
  pub some : b ≡ 1 → ⊥
  pub are : from_bits binary32 b ≡ magnitude_of s

-- ---- a guess mended

-- a number whose root has 24 binary digits, and a guess that has no more
pub record Target (t g : ℕ) : Type 0 where
  pub low : 2 ^ 46 ≤ t
  pub high : t ≤ 2 ^ 48 - 2 ^ 32
  pub most : g < 2 ^ 24
