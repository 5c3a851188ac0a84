-- 2^23 added to a fraction from 0 to 255: the sum rounds to a whole number at most a half away, which its bits hold. Assumes nothing.
use mathlib.Core.Path.{◌≡◌, refl, ◌∙◌}
use mathlib.Core.Bool.{false, not}
use Prim.Native.Nat.{ℕ, ◌+◌, ◌*◌, ◌/◌, ◌%◌, ◌^◌, ◌≤◌, ◌<◌, compare, Ordering}
use native.Mathlib.Nat.{lt_of_lt_of_le, lt_of_not-le, not-le_of_lt, mul-one, one-mul, mul_assoc, mul_right_comm, add-mul, suc-mul, mod-lt, mul-le-mul_right}
use native.Mathlib.Nat.{mul-lt-mul_of_pos_right, lt_of_mul-lt-mul_right, eq_of_mul-eq-mul_right, le_antisymm, mul-pos, div-add-mod', le-div_iff_mul-le, div-lt_iff_lt-mul}
use native.Mathlib.Omega.{arith}
use lib.Dec.{T, is_le, compare_is_eq, leb→le, nleb→lt, eqb→eq}
use lib.Pow.{pow_mono, pow_pos}
use lib.Ieee.{Float, nan, inf, fin, binary32, up, down, size, nearest, round, of_bits, to_bits, is_nan}
use lib.Ieee.Bits.{of_bits-fits, to_bits-of_bits, nan_bits_is}
use lib.Ieee.Digits.{size-lt, size-le}
use lib.Ieee.Exact.{HasValue, odd_sign}
use lib.Ieee.Fits.{round-fits}
use lib.Ieee.Nearest.{closest, closest_same}
use lib.Ieee.Scale.{round_val, grid, overflow}
use lib.Ieee.Back.{whole_unique}
use Rattle.rules.proofs.Patterns.{pattern, pattern_is, pattern_ok}

-- ---- a fraction to a nearest whole number: at most a half away

pub record Half (a b q : ℕ) : Type 0 where
  pub low : 2 * (q * b) ≤ 2 * a + b
  pub high : 2 * a ≤ 2 * (q * b) + b

-- w and r / b, by how twice r compares with b
halves : (w r b : ℕ) (o : Ordering) → (T (is_le o) → r * 2 ≤ b) → (T (not (is_le o)) → b < r * 2) → (T (compare_is_eq o) → r * 2 ≡ b) → r < b
    → Half (w * b + r) b (nearest w o)
halves w r b Ordering.lt h g e l = let k = h tt in record { low = omega arith; high = omega arith }
halves w r b Ordering.eq h g e l =
    let k = e tt in
    let p : w % 2 ≤ 1 = omega arith in
    record { low = omega (arith, add-mul w (w % 2) b, mul-le-mul_right b p, one-mul b); high = omega (arith, add-mul w (w % 2) b) }
halves w r b Ordering.gt h g e l = let k = g tt in record { low = omega (arith, suc-mul w b); high = omega (arith, suc-mul w b) }

pub closest_half : (a b : ℕ) → 0 < b → Half a b (closest a b)
closest_half a b h =
    let r = a % b * 2 in
    rw (div-add-mod' a b) at (halves (a / b) (a % b) b (compare r b) (leb→le r b) (nleb→lt r b) (eqb→eq r b) (mod-lt a h))

-- ---- a / d between 2 ^ 23 and 2 ^ 23 + 255 keeps no digit after the point

size_gt : (n j : ℕ) → 2 ^ j ≤ n → j < size n
size_gt n j h = lt_of_not-le (λ (g : size n ≤ j). not-le_of_lt (lt_of_lt_of_le (size-lt n) (pow_mono g)) h)

-- a power of two this large is beyond omega, so the laws are over any factor
scale_low : (a d c L K : ℕ) → K ≡ c * L → c * d ≤ a → K * d ≤ a * L
scale_low a d c L K e h = rw (e, mul_right_comm c L d) (mul-le-mul_right L h)

scale_high : (a d c L K : ℕ) → K ≡ c * L → 0 < L → a < c * d → a * L < K * d
scale_high a d c L K e p h = rw (e, mul_right_comm c L d) (mul-lt-mul_of_pos_right h p)

unscale : (x q d L : ℕ) → 0 < L → x * L ≡ q * L * d → x * 1 ≡ q * d
unscale x q d L p e = mul-one x ∙ eq_of_mul-eq-mul_right L p x (q * d) (e ∙ mul_right_comm q L d)

module _ (a d : ℕ) (p : 0 < d) (l : 8388608 * d ≤ a) (u : a ≤ 8388863 * d) where
  digits : size (a * 2 ^ 149 / d) ≡ 173
  digits =
      le_antisymm (size-le _ 173 ((div-lt_iff_lt-mul p).1 (scale_high a d 16777216 (2 ^ 149) (2 ^ 173) refl (pow_pos 149) (omega arith))))
      (size_gt _ 172 ((le-div_iff_mul-le p).1 (scale_low a d 8388608 (2 ^ 149) (2 ^ 172) refl l)))

  abbrev pub Q : ℕ
  Q = closest a d

  grid_is : grid binary32 a d ≡ Q * 2 ^ 149
  grid_is = rw (digits, closest_same (a * 2 ^ 149) (d * 2 ^ 149) a d (mul-pos p (pow_pos 149)) p (mul_right_comm a (2 ^ 149) d ∙ mul_assoc a d (2 ^ 149)))

  pub whole_low : 8388608 ≤ Q
  whole_low = lt_of_mul-lt-mul_right d {m = 8388607} (omega (arith, (closest_half a d p).high))

  pub whole_high : Q ≤ 8388863
  whole_high = let g : Q < 8388864 = lt_of_mul-lt-mul_right d (omega (arith, (closest_half a d p).low)) in omega arith

  below : Q < 16777216
  below = omega (arith, whole_high)

  rescaled : (x : Float) → HasValue x false (Q * 2 ^ 149) (2 ^ 149) → HasValue x false Q 1
  rescaled nan v = v
  rescaled (inf s) v = v
  rescaled (fin s m e) v = (v.0, unscale (m * up e) Q (down e) (2 ^ 149) (pow_pos 149) v.1)

  sum_value : HasValue (round binary32 false a d) false Q 1
  sum_value =
      let k : Q < 2 ^ 128 = lt_of_lt_of_le below (pow_mono {i = 24} {j = 128} (omega arith)) in
      let o : grid binary32 a d < overflow binary32 = rw grid_is (mul-lt-mul_of_pos_right k (pow_pos 149)) in
      rescaled (round binary32 false a d) (rw grid_is at (round_val binary32 a d o))

  abbrev pub bits : ℕ
  bits = pattern Q 0

  pattern_value : HasValue (of_bits binary32 bits) false Q 1
  pattern_value = rw (pattern_is Q 0 (omega arith) whole_low below) (rw (mul-one Q) at (odd_sign 24 false Q 0 0))

  same : round binary32 false a d ≡ of_bits binary32 bits
  same = whole_unique binary32 _ _ false Q (round-fits binary32 false a d) (of_bits-fits binary32 bits) sum_value pattern_value

  no_nan : T (not (is_nan (of_bits binary32 bits)))
  no_nan = rw (nan_bits_is binary32 bits) at (pattern_ok Q 0 (omega arith) whole_low below)

  pub sum_no_nan : T (not (is_nan (round binary32 false a d)))
  sum_no_nan = rw same no_nan

  pub sum_bits : to_bits binary32 (round binary32 false a d) ≡ bits
  sum_bits = rw same (to_bits-of_bits binary32 bits (omega (arith, whole_high)) no_nan)
