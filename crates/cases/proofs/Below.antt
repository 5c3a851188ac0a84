-- `-1 - m` in a signed type that holds m: it fits, and is the number whose pattern is m's turned over. Assumes nothing.
use mathlib.Core.Path.{◌≡◌, refl, sym, ap, ◌∙◌}
use Prim.Native.Nat.{ℕ, zero, suc, ◌-◌, ◌%◌, ◌<◌, ◌^◌}
use native.Mathlib.Omega.{arith}
use native.Mathlib.Nat.{zero-add}
use lib.IntN.{ℤ, pos, negsuc, ◌-ℤ◌}
use mir.Syntax.{Width, w16}
use mir.Val.{SFits, to_z, of_z, bits, hbits}
use mir.ValLaws.{to_z_pos, to_z-neg, to_z-of_z, of_z-to_z}
use Rattle.cases.specs.Lists.{signed_of}

under : (m : ℕ) → negsuc 0 -ℤ pos m ≡ negsuc m
under zero = refl
under (suc m) = rw zero-add

module _ (w : Width) (m : ℕ) (h : m < 2 ^ hbits w) where
  is : negsuc 0 -ℤ to_z w m ≡ negsuc m
  is = ap (λ z. negsuc 0 -ℤ z) (to_z_pos w m h) ∙ under m

  pub below : SFits w (negsuc 0 -ℤ to_z w m)
  below = rw is (record { sfits = h })

  pub below_is : to_z w (of_z w (negsuc 0 -ℤ to_z w m)) ≡ to_z w (2 ^ bits w - suc m)
  below_is = to_z-of_z w _ below ∙ is ∙ sym (to_z-neg w m h)

-- a number that was made of a pattern is read back from i16
pub read_back : (n : ℕ) {z : ℤ} → z ≡ signed_of n → to_z w16 (of_z w16 z) ≡ signed_of n
read_back n e = ap (λ (x : ℤ). to_z w16 (of_z w16 x)) e ∙ ap (to_z w16) (of_z-to_z w16 (n % 65536) (record { fits = omega arith }))
