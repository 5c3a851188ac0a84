-- Sizes of signed numbers: of sums and products, what a signed type holds and reads back, and an i16 at 32 bits. Assumes nothing.
use mathlib.Core.Path.{◌≡◌, refl, ◌∙◌}
use mathlib.Core.Bool.{Bool, true, false, cond}
use Prim.Native.Nat.{ℕ, zero, suc, ◌+◌, ◌-◌, ◌*◌, ◌^◌, ◌<◌, ◌≤◌}
use native.Mathlib.Nat.{le_refl, mul-le-mul, mul-suc}
use native.Mathlib.Omega.{arith}
use lib.Dec.{ltb}
use lib.IntN.{ℤ, pos, negsuc, neg_ℤ, nat_abs, ◌+ℤ◌, ◌*ℤ◌}
use lib.Signed.{mag, nat_abs-le}
use borrow.Author.Tests.{ltb-true}
use mir.Syntax.{Width, w16, w32}
use mir.Val.{SFits, hbits, to_z, of_z}
use mir.ValLaws.{to_z-of_z}
use Rattle.rules.specs.Gradient.{sum_z}

mag_abs : (z : ℤ) → mag z ≤ nat_abs z
mag_abs (pos n) = le_refl n
mag_abs (negsuc n) = omega arith

-- a number below half the type's range fits it, and is read back as it was stored
pub sfits : (w : Width) (z : ℤ) → nat_abs z < 2 ^ hbits w → SFits w z
sfits w z h = record { sfits = omega (arith, mag_abs z) }

pub back : (w : Width) (z : ℤ) → nat_abs z < 2 ^ hbits w → to_z w (of_z w z) ≡ z
back w z h = to_z-of_z w z (sfits w z h)

diff : (t : Bool) (a b c : ℕ) → ltb a b ≡ t → a ≤ c → b ≤ c → nat_abs (cond t (negsuc (b - suc a)) (pos (a - b))) ≤ c
diff true a b c e h k = omega (arith, ltb-true a b e)
diff false a b c e h k = omega arith

abs_add : (x y : ℤ) → nat_abs (x +ℤ y) ≤ nat_abs x + nat_abs y
abs_add (pos a) (pos b) = le_refl (a + b)
abs_add (pos a) (negsuc b) = diff _ a (suc b) (a + suc b) refl (omega arith) (omega arith)
abs_add (negsuc a) (pos b) = diff _ b (suc a) (suc a + b) refl (omega arith) (omega arith)
abs_add (negsuc a) (negsuc b) = omega arith

abs_neg : (n : ℕ) → nat_abs (neg_ℤ (pos n)) ≡ n
abs_neg zero = refl
abs_neg (suc n) = refl

pub abs_mul : (x y : ℤ) → nat_abs (x *ℤ y) ≡ nat_abs x * nat_abs y
abs_mul (pos a) (pos b) = refl
abs_mul (pos a) (negsuc b) = abs_neg (a * suc b)
abs_mul (negsuc a) (pos b) = abs_neg (suc a * b)
abs_mul (negsuc a) (negsuc b) = refl

-- a square is its size's
pub square : (z : ℤ) → z *ℤ z ≡ pos (nat_abs z * nat_abs z)
square (pos a) = refl
square (negsuc a) = refl

-- a sum of n terms of at most b
pub sum_size : (t : ℕ → ℤ) (b n : ℕ) → ((k : ℕ) → nat_abs (t k) ≤ b) → nat_abs (sum_z t n) ≤ b * n
unfolding sum_z
sum_size t b zero h = omega arith
sum_size t b (suc n) h = omega (arith, abs_add (sum_z t n) (t n), h n, sum_size t b n h, mul-suc b n)

-- ---- an i16, as the code holds it at 32 bits

abbrev pub held : ℤ → ℤ
held z = to_z w32 (of_z w32 (to_z w16 (of_z w16 z)))

module _ {z : ℤ} (f : SFits w16 z) where
  pub wide_fits : SFits w32 (to_z w16 (of_z w16 z))
  wide_fits = rw (to_z-of_z w16 z f) (record { sfits = omega (arith, f.sfits) })

  pub held_is : held z ≡ z
  held_is = to_z-of_z w32 _ wide_fits ∙ to_z-of_z w16 z f

  pub half_range : nat_abs z ≤ 2 ^ 15
  half_range = nat_abs-le z f.sfits

  held_square : held z *ℤ held z ≡ pos (nat_abs z * nat_abs z)
  held_square = rw held_is (square z)

  pub square_fits : SFits w32 (held z *ℤ held z)
  square_fits = rw held_square (record { sfits = omega (arith, mul-le-mul half_range half_range) })

  pub square_read : to_z w32 (of_z w32 (held z *ℤ held z)) ≡ pos (nat_abs z * nat_abs z)
  square_read = to_z-of_z w32 _ square_fits ∙ held_square
