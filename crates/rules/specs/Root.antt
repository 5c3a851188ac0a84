-- The magnitude of S for Canny, and Sobel's own byte (01.Gradient.4 to 01.Gradient.6).
use Rattle.std.specs.Prelude.{ℕ, zero, suc, ◌+◌, ◌-◌, ◌*◌, ◌/◌, ◌^◌, ◌<◌, ◌≤◌, cond, false, leb, ltb, eqb, pos, Float}
use Rattle.std.specs.Float.Ieee.{odd}
use Rattle.rules.specs.Sums.{plus_zero, whole_f32}

-- from this S on the magnitude is 255
abbrev pub cap_s : ℕ
cap_s = 65025

-- m * 2^-k as a float
abbrev pub scaled : ℕ → ℕ → Float
scaled m k = odd 24 false m 0 k

-- 01's own words for the f32 nearest the root of S: m * 2^-k with m from 2^23 to 2^24 - 1 and (2m - 1)² < 4 S 4^k < (2m + 1)².
-- For 0 < S < 65,025 there is exactly one (proofs/Roots).
pub record NearestRoot (s m k : ℕ) : Type 0 where
  pub least : 2 ^ 23 ≤ m
  pub most : m ≤ 2 ^ 24 - 1
  pub above : (2 * m - 1) * (2 * m - 1) < 4 * (s * 4 ^ k)
  pub below : 4 * (s * 4 ^ k) < (2 * m + 1) * (2 * m + 1)

-- What the whole number m nearest the root of t passes, and no other (proofs/Roots): (2m - 1)² < 4t < (2m + 1)² with the squares written
-- out, where t is whole.
pub record Near (t m : ℕ) : Type 0 where
  pub low : m * m < t + m
  pub high : t ≤ m * m + m

-- and this computes it. The whole root of a t below 4^d, one binary digit at a time:
unfoldable pub whole_root : ℕ → ℕ → ℕ
whole_root zero t = 0
whole_root (suc d) t = let r = 2 * whole_root d (t / 4) in cond (leb ((r + 1) * (r + 1)) t) (r + 1) r

-- the whole number nearest the root of a t below 4^24
unfoldable pub near_root : ℕ → ℕ
near_root t = let r = whole_root 24 t in cond (leb t (r * r + r)) r (r + 1)

-- the k that brings the root of s * 4^k, for s from 1 to 65,535, between 2^23 and 2^24
abbrev pub shift_of : ℕ → ℕ
shift_of s =
    cond (ltb s 4) 23
    (cond (ltb s 16) 22
    (cond (ltb s 64) 21
    (cond (ltb s 256) 20
    (cond (ltb s 1024) 19
    (cond (ltb s 4096) 18
    (cond (ltb s 16384) 17 16))))))

unfoldable pub root_of : ℕ → Float
root_of s = scaled (near_root (s * 4 ^ shift_of s)) (shift_of s)

-- the magnitude: 0, the nearest root, or the cap
unfoldable pub magnitude_of : ℕ → Float
magnitude_of s = cond (eqb s 0) plus_zero (cond (leb cap_s s) (whole_f32 (pos 255)) (root_of s))

-- ---- Sobel's byte

-- the upper end of the sums that get byte n
abbrev pub upper_end : ℕ → ℕ
upper_end n = n * n + n

-- the least k from n to n + d - 1 with s at most its upper end, else n + d
unfoldable pub least_from : ℕ → ℕ → ℕ → ℕ
least_from s n zero = n
least_from s n (suc d) = cond (leb s (upper_end n)) n (least_from s (suc n) d)

-- the least n from 0 to 254 with S at most n² + n, else 255
unfoldable pub sobel_byte : ℕ → ℕ
sobel_byte s = least_from s 0 255
