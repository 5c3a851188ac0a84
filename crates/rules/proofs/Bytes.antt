-- The rounding of the byte: `nearest_whole` is the one nearest whole number; and the box's tap is the f32 nearest 1/3. Assumes nothing.
use mathlib.Core.Path.{◌≡◌, refl}
use mathlib.Core.Bool.{false}
use Prim.Native.Nat.{ℕ, ◌+◌, ◌-◌, ◌*◌, ◌/◌, ◌%◌, ◌^◌, ◌<◌, ◌≤◌}
use native.Mathlib.Nat.{div-add-mod', mod-lt, mul_left_comm, mul-le-mul_right, add-mul}
use native.Mathlib.Omega.{arith}
use lib.Dec.{lit<, lit≤}
use lib.IntN.{pos, negsuc}
use lib.Ieee.{fin, binary32, of_bits, of_int, div}
use Rattle.rules.specs.Sums.{nearest_whole, Nearest, whole_f32}
use Rattle.rules.specs.Filters.{third}

module _ (a c : ℕ) (h : 0 < c) where
  pub nearest_is : Nearest a c (nearest_whole a c)
  nearest_is =
      let n = (2 * a + c) / (2 * c) in
      let e : n * (2 * c) + (2 * a + c) % (2 * c) ≡ 2 * a + c = div-add-mod' (2 * a + c) (2 * c) in
      let r : (2 * a + c) % (2 * c) < 2 * c = mod-lt (2 * a + c) (omega arith) in
      let m : n * (2 * c) ≡ 2 * (n * c) = mul_left_comm n 2 c in
      record { above = omega arith; below = omega arith }

  -- a larger one is more than a half away
  apart : (n m : ℕ) → Nearest a c n → Nearest a c m → n < m → ⊥
  apart n m p q l = let k : (n + 1) * c ≤ m * c = mul-le-mul_right c l' in omega (arith, add-mul n 1 c, p.below, q.above)
    where
      l' : n + 1 ≤ m
      l' = omega arith

  pub nearest_only : (n m : ℕ) → Nearest a c n → Nearest a c m → n ≡ m
  nearest_only n m p q =
      let f : n < m → ⊥ = apart n m p q in
      let g : m < n → ⊥ = apart m n q p in
      omega arith

-- ---- the box's tap (01.Border.10)

-- its value is 11184811 / 2^25, with 24 digits
pub third_is : third ≡ fin false 11184811 (negsuc 24)
unfolding of_bits
third_is = refl

-- at less than half a last digit from 1/3, on either side: no other f32 is nearer
pub third_nearest : (2 ^ 23 ≤ 11184811) × (11184811 < 2 ^ 24) × (3 * (2 * 11184811 - 1) < 2 * 2 ^ 25) × (2 * 2 ^ 25 < 3 * (2 * 11184811 + 1))
third_nearest = (lit≤ tt, lit< tt, lit< tt, lit< tt)

-- and IEEE 754's own quotient of 1 and 3
pub third_divides : third ≡ div binary32 (whole_f32 (pos 1)) (whole_f32 (pos 3))
unfolding of_bits of_int div
third_divides = refl
