-- What the steps of `quantize` say: the tests that hold a float to 0..255, a nearest whole number, and the comparison with n and a half. Assumes nothing.
use mathlib.Core.Path.{◌≡◌, refl, ap}
use mathlib.Core.Bool.{Bool, true, false, not, ◌&&◌, cond}
use Prim.Native.Nat.{ℕ, zero, suc, ◌+◌, ◌-◌, ◌*◌, ◌<◌, ◌≤◌}
use native.Mathlib.Nat.{mul-one, one-mul, zero-mul, mul_assoc, add-mul, lt_of_not-le, mul-le-mul_right, le-div_iff_mul-le}
use native.Mathlib.Omega.{arith}
use lib.Dec.{T, ltb, eqb, eqb→eq}
use lib.IntN.{ℤ, pos, negsuc}
use lib.Ieee.{Float, nan, inf, fin, binary32, up, down, lt, sum, round, add, of_int, of_bits, to_bits, fits, is_nan}
use lib.Ieee.Bits.{of_bits-to_bits}
use lib.Ieee.Fits.{down_pos, add-fits, and_l, and_r}
use lib.Ieee.Scale.{round_same}
use borrow.Author.Tests.{ltb-true, ltb-false}
use Rattle.rules.specs.Sums.{plus_zero, whole_f32, to_byte, nearest_whole, signed, held}
use Rattle.rules.proofs.Bytes.{nearest_is, nearest_only}
use Rattle.rules.proofs.Computed.{at}
use Rattle.filters.specs.Byte.{top, held_of, Small, small, Near, near}
use Rattle.filters.proofs.Magic.{closest_half, whole_low, whole_high, sum_no_nan, sum_bits, Q}

-- the nearest whole number is the one within its two bounds
whole_is : (a c n : ℕ) → 0 < c → 2 * (n * c) ≤ 2 * a + c → 2 * a < 2 * (n * c) + c → nearest_whole a c ≡ n
whole_is a c n h l u = nearest_only a c h (nearest_whole a c) n (nearest_is a c h) (record { above = l; below = omega arith })

-- ---- held: what is held is small, and its byte is the same

-- what is negative gives 0
negative : (n : ℕ) → 0 ≡ held (signed true n)
negative zero = refl
negative (suc n) = refl

pub held_is : (x : Float) → Small (held_of x) × (to_byte (held_of x) ≡ to_byte x)
unfolding held_of lt of_bits to_byte
held_is nan = (small {m = 0} {e = pos 0} (omega arith), refl)
held_is (inf true) = (small {m = 0} {e = pos 0} (omega arith), refl)
held_is (inf false) = (small {m = 255} {e = pos 0} (omega arith), refl)
held_is (fin true m e) = (small {m = 0} {e = pos 0} (omega arith), negative (nearest_whole (m * up e) (down e)))
held_is (fin false m e) = go (ltb (0 * down e) (m * up e * 1)) refl (ltb (m * up e * 1) (255 * down e)) refl
  where
    go : (a : Bool) → ltb (0 * down e) (m * up e * 1) ≡ a → (b : Bool) → ltb (m * up e * 1) (255 * down e) ≡ b
        → let y = cond a (cond b (fin false m e) top) plus_zero in Small y × (to_byte y ≡ to_byte (fin false m e))
    go true t true u = (small {m = m} {e = e} (omega (arith, ltb-true (m * up e * 1) (255 * down e) u)), refl)
    go true t false u =
        let z = ltb-false (m * up e * 1) (255 * down e) u in
        let p : 0 < 2 * down e = omega (arith, down_pos e) in
        let w : 255 ≤ nearest_whole (m * up e) (down e) = (le-div_iff_mul-le p).1 (omega arith) in
        (small {m = 255} {e = pos 0} (omega arith), omega arith)
    go false t b u =
        let z = ltb-false (0 * down e) (m * up e * 1) t in
        let n = zero-mul (down e) in
        let d = down_pos e in
        (small {m = 0} {e = pos 0} (omega arith), omega (arith, whole_is (m * up e) (down e) 0 d (omega arith) (omega arith)))

-- ---- the sum with 2^23

abbrev pub shifted : Float → Float
shifted u = add binary32 u (of_bits binary32 0x4b00_0000)

module _ (m : ℕ) (e : ℤ) (h : m * up e ≤ 255 * down e) where
  abbrev A : ℕ
  A = m * up e + 8388608 * down e

  low : 8388608 * down e ≤ A
  low = omega arith

  high : A ≤ 8388863 * down e
  high = omega arith

  shifted_is : shifted (fin false m e) ≡ round binary32 false A (down e)
  unfolding add sum of_bits
  shifted_is =
      round_same binary32 false (m * up e * 1 + 1 * 8388608 * down e) (down e * 1) A (down e) (omega (arith, down_pos e)) (down_pos e)
      (rw (mul-one (m * up e), mul-one (down e)))

  found : Near (fin false m e) (1258291200 + (Q A (down e) (down_pos e) low high - 8388608) - 1258291200)
  found =
      let q = Q A (down e) (down_pos e) low high in
      let n = q - 8388608 in
      let l = whole_low A (down e) (down_pos e) low high in
      let u = whole_high A (down e) (down_pos e) low high in
      let t = closest_half A (down e) (down_pos e) in
      let s : n + 8388608 ≡ q = omega arith in
      let w = ap (λ (z : ℕ). z * down e) s in
      let b : 1258291200 + n - 1258291200 ≡ n = omega arith in
      rw b (near {m = m} {n = n} {e = e} (omega arith) (omega (arith, t.low, add-mul n 8388608 (down e))) (omega (arith, t.high, add-mul n 8388608 (down e))))

-- it is no NaN, and its bits hold a nearest whole number
pub near_is : {u : Float} → Small u
    → T (not (is_nan (shifted u))) × (1258291200 ≤ to_bits binary32 (shifted u)) × Near u (to_bits binary32 (shifted u) - 1258291200)
near_is (small {m} {e} h) =
    let l = low m e h in
    let g = high m e h in
    rw (shifted_is m e h, sum_bits (A m e h) (down e) (down_pos e) l g) (sum_no_nan (A m e h) (down e) (down_pos e) l g, omega arith, found m e h)

pub near_most : {u : Float} {n : ℕ} → Near u n → n ≤ 255
near_most (near a b c) = a

-- ---- n + 0.5 at each byte n: it has the bits of the exact sum, one computed test

abbrev exact : ℕ → Float
exact n = fin false (2 * n + 1) (negsuc 0)

abbrev code : ℕ → Float
code n = add binary32 (whole_f32 (pos n)) (of_bits binary32 0x3f00_0000)

rule : ℕ → Bool
unfolding of_int add of_bits to_bits fits
rule n = fits binary32 (exact n) && eqb (to_bits binary32 (code n)) (to_bits binary32 (exact n))

pub half : (n : ℕ) → n < 256 → code n ≡ exact n
unfolding rule
half n h =
    let f = fits binary32 (exact n) in
    let e = eqb (to_bits binary32 (code n)) (to_bits binary32 (exact n)) in
    let t : T (f && e) = at rule 256 tt n h in
    let s = eqb→eq (to_bits binary32 (code n)) (to_bits binary32 (exact n)) (and_r f e t) in
    cc (of_bits-to_bits binary32 (code n) (add-fits binary32 (whole_f32 (pos n)) (of_bits binary32 0x3f00_0000)), of_bits-to_bits binary32 (exact n) (and_l f e t))

-- ---- the last comparison, with n and a half

test_is : (n c : ℕ) → (2 * n + 1) * 1 * c ≡ 2 * (n * c) + c
test_is n c = rw mul-one (omega (arith, add-mul (2 * n) 1 c, mul_assoc 2 n c))

pub rounds_down : {x : Float} {n : ℕ} → Near x n → lt x (fin false (2 * n + 1) (negsuc 0)) ≡ true → n ≡ to_byte x
unfolding lt to_byte
rounds_down (near {m} {n} {e} b l u) v =
    let t = ltb-true (m * up e * 2) ((2 * n + 1) * 1 * down e) v in
    omega (arith, whole_is (m * up e) (down e) n (down_pos e) l (omega (arith, test_is n (down e))))

pub rounds_up : {x : Float} {n : ℕ} → Small x → Near x n → lt x (fin false (2 * n + 1) (negsuc 0)) ≡ false → (n < 255) × (n + 1 ≡ to_byte x)
unfolding lt to_byte
rounds_up (small s) (near {m} {n} {e} b l u) v =
    let d = down_pos e in
    let r : 2 * (n * down e) + down e ≤ 2 * (m * up e) = omega (arith, ltb-false (m * up e * 2) ((2 * n + 1) * 1 * down e) v, test_is n (down e)) in
    let k : (n + 1) * down e ≡ n * down e + down e = omega (arith, add-mul n 1 (down e), one-mul (down e)) in
    let t : n < 255 = lt_of_not-le (λ (g : 255 ≤ n). omega (arith, mul-le-mul_right (down e) g)) in
    (t, omega (arith, whole_is (m * up e) (down e) (n + 1) d (omega arith) (omega arith)))
