-- Signed numbers at the code's edge: a signed local is its bits, so what the code reads back is `to_z w (of_z w z)`. Assumes nothing.
use mathlib.Core.Path.{◌≡◌, refl, sym, ap, ◌∙◌}
use mathlib.Core.Bool.{Bool, true, false, cond}
use Prim.Native.Nat.{ℕ, zero, suc, ◌-◌, ◌%◌, ◌/◌, ◌<◌, ◌≤◌, ◌^◌}
use native.Mathlib.Nat.{mod-lt, mod_self, mod-eq_of_lt, div-le_self, sub-zero}
use native.Mathlib.Omega.{arith}
use lib.Dec.{T, ltb}
use lib.IntN.{ℤ, pos, negsuc, neg_ℤ, nat_abs, ◌+ℤ◌, ◌-ℤ◌}
use lib.Signed.{lt_z, non_neg, quot_z, rem_z, mag, mag_rem}
use mir.Syntax.{w64}
use mir.Val.{Fits, SFits, to_z, of_z}
use mir.ValLaws.{to_z-of_z, to_z_pos, sfits_le}
use borrow.Author.Tests.{ltb-true, le-ltb}
use Rattle.rules.specs.Border.{emod}
use Rattle.rules.proofs.Bools.{clash}
use Rattle.rules.proofs.Border.{emod_lt}

-- ---- the test `z < 0`

-- it failed: z is its natural number
pub natural : (z : ℤ) → lt_z z (pos 0) ≡ false → z ≡ pos (nat_abs z)
natural (pos n) e = refl
natural (negsuc n) e = absurd (clash refl e)

-- it passed
pub negative : (z : ℤ) → lt_z z (pos 0) ≡ true → z ≡ negsuc (mag z)
negative (pos n) e = let h : n < 0 = ltb-true n 0 e in absurd (omega arith)
negative (negsuc n) e = refl

-- a cast to an unsigned type asks this of what is read, and gives n
pub cast_of : (x : ℤ) (n : ℕ) → x ≡ pos n → n < 2 ^ 63 → T (non_neg x) × Fits w64 (nat_abs x)
cast_of x n e h = rw e (tt, record { fits = omega arith })

-- what is known of an i64 whose test `z < 0` failed: the code holds its natural number n
pub record Natural (z : ℤ) (n : ℕ) : Type 0 where
  pub is : z ≡ pos n
  pub small : n < 2 ^ 63

pub natural_of : (z : ℤ) → SFits w64 z → lt_z (to_z w64 (of_z w64 z)) (pos 0) ≡ false → Natural z (nat_abs (to_z w64 (of_z w64 z)))
natural_of z f t =
    let e = to_z-of_z w64 z f in
    rw e (record { is = natural z (rw e at t); small = bound z (rw e at t) f.sfits })
  where
    bound : (z : ℤ) → lt_z z (pos 0) ≡ false → mag z < 2 ^ 63 → nat_abs z < 2 ^ 63
    bound (pos n) e h = h
    bound (negsuc n) e h = absurd (clash refl e)

pub cast_natural : (z : ℤ) → SFits w64 z → lt_z (to_z w64 (of_z w64 z)) (pos 0) ≡ false
    → T (non_neg (to_z w64 (of_z w64 z))) × Fits w64 (nat_abs (to_z w64 (of_z w64 z)))
cast_natural z f t = let n = natural_of z f t in cast_of _ _ (to_z-of_z w64 z f ∙ n.is) n.small

-- ---- the remainder of an i64 by a small p, mended where it is negative

neg_fits : (q a : ℕ) → q ≤ suc a → mag (neg_ℤ (pos q)) ≤ a
neg_fits zero a h = omega arith
neg_fits (suc q) a h = omega arith

-- a quotient by a natural number is no larger than what is divided
mag_quot : (z : ℤ) (p : ℕ) → mag (quot_z z (pos p)) ≤ mag z
mag_quot (pos a) p = div-le_self a p
mag_quot (negsuc a) p = neg_fits (suc a / p) a (div-le_self (suc a) p)

mended : (k p : ℕ) → k < p → lt_z (neg_ℤ (pos k)) (pos 0) ≡ true → neg_ℤ (pos k) +ℤ pos p ≡ pos ((p - k) % p)
mended zero p h e = let f : 0 < 0 = ltb-true 0 0 e in absurd (omega arith)
mended (suc k) p h e = let b : suc k ≤ p = omega arith in let l : p - suc k < p = omega arith in rw (le-ltb p (suc k) b, mod-eq_of_lt l)

unmended : (k p : ℕ) → 0 < p → lt_z (neg_ℤ (pos k)) (pos 0) ≡ false → neg_ℤ (pos k) ≡ pos ((p - k) % p)
unmended zero p h e = ap pos (sym (ap (λ (n : ℕ). n % p) (sub-zero p) ∙ mod_self p))
unmended (suc k) p h e = absurd (clash refl e)

-- the machine's remainder, mended where it is negative, is the non-negative one
pub rem_neg : (z : ℤ) (p : ℕ) → 0 < p → lt_z (rem_z z (pos p)) (pos 0) ≡ true → rem_z z (pos p) +ℤ pos p ≡ pos (emod z p)
rem_neg (pos a) p h e = let f : a % p < 0 = ltb-true (a % p) 0 e in absurd (omega arith)
rem_neg (negsuc a) p h e = mended (suc a % p) p (mod-lt (suc a) h) e

rem_nat : (z : ℤ) (p : ℕ) → 0 < p → lt_z (rem_z z (pos p)) (pos 0) ≡ false → rem_z z (pos p) ≡ pos (emod z p)
rem_nat (pos a) p h e = refl
rem_nat (negsuc a) p h e = unmended (suc a % p) p h e

-- as the code holds it
module _ (z : ℤ) (p : ℕ) (f : SFits w64 z) (h : 0 < p) (b : p < 2 ^ 62) where
  abbrev pub held_rem : ℤ
  held_rem = to_z w64 (of_z w64 (rem_z (to_z w64 (of_z w64 z)) (to_z w64 p)))

  read_p : to_z w64 p ≡ pos p
  read_p = to_z_pos w64 p (omega arith)

  pub rem_fits : SFits w64 (quot_z (to_z w64 (of_z w64 z)) (to_z w64 p))
  rem_fits = rw (to_z-of_z w64 z f, read_p) (sfits_le (mag_quot z p) f)

  pub read_rem : held_rem ≡ rem_z z (pos p)
  read_rem = rw (to_z-of_z w64 z f, read_p) (to_z-of_z w64 (rem_z z (pos p)) (sfits_le (mag_rem z (pos p)) f))

  pub rem_small : emod z p < 2 ^ 63
  rem_small = omega (arith, emod_lt z p h)

  -- the test `r < 0` failed
  pub rem_is : lt_z held_rem (pos 0) ≡ false → held_rem ≡ pos (emod z p)
  rem_is t = read_rem ∙ rem_nat z p h (rw read_rem at t)

  -- or passed: r + p, which fits
  module _ (t : lt_z held_rem (pos 0) ≡ true) where
    sum_is : held_rem +ℤ to_z w64 p ≡ pos (emod z p)
    sum_is = rw (read_rem, read_p) (rem_neg z p h (rw read_rem at t))

    pub sum_fits : SFits w64 (held_rem +ℤ to_z w64 p)
    sum_fits = rw sum_is (record { sfits = rem_small })

    pub sum_read : to_z w64 (of_z w64 (held_rem +ℤ to_z w64 p)) ≡ pos (emod z p)
    sum_read = to_z-of_z w64 _ sum_fits ∙ sum_is

-- ---- a difference of two small numbers, at an i64

either : (t : Bool) (n m : ℕ) → n < 2 ^ 63 → m < 2 ^ 63 → mag (cond t (negsuc n) (pos m)) < 2 ^ 63
either true n m h k = h
either false n m h k = k

mag_diff : (a b : ℕ) → a < 2 ^ 62 → b < 2 ^ 62 → mag (pos a -ℤ pos b) < 2 ^ 63
mag_diff a zero h k = omega arith
mag_diff a (suc b) h k = either (ltb a (suc b)) (suc b - suc a) (a - suc b) (omega arith) (omega arith)

module _ (a b : ℕ) (h : a < 2 ^ 62) (k : b < 2 ^ 62) where
  diff_is : to_z w64 a -ℤ to_z w64 b ≡ pos a -ℤ pos b
  diff_is = rw (to_z_pos w64 a (omega arith), to_z_pos w64 b (omega arith))

  pub diff_fits : SFits w64 (to_z w64 a -ℤ to_z w64 b)
  diff_fits = rw diff_is (record { sfits = mag_diff a b h k })

  pub diff_back : to_z w64 (of_z w64 (to_z w64 a -ℤ to_z w64 b)) ≡ pos a -ℤ pos b
  diff_back = to_z-of_z w64 _ diff_fits ∙ diff_is
