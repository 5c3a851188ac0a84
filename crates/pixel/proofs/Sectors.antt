-- Sectors: the sector by the code's tests. Assumes nothing.
use Rattle.std.proofs.Common.{◌≡◌, ℕ, ◌+◌, ◌*◌, ◌^◌, ◌<◌, ◌≤◌, Bool, true, false, cond, not, ◌&&◌, eqb, ℤ, pos, negsuc, nat_abs, refl, zero-le, mul_comm, add-mul, mul-le-mul, mul-add, arith, w16, SFits, to_z, of_z, le-ltb, lt-ltb, eqb-true}
use mathlib.Core.Bool.{beq}
use lib.Signed.{lt_z, non_neg}
use mir.ValLaws.{to_z-of_z}
use Rattle.rules.specs.Sector.{sector_of}
use Rattle.rules.proofs.Bools.{both}
use Rattle.pixel.specs.Sizes.{AbsoluteOf}

-- (a + b)²
sum_square : (a b : ℕ) → (a + b) * (a + b) ≡ a * a + 2 * (a * b) + b * b
sum_square a b = omega (arith, add-mul a b (a + b), mul-add a a b, mul-add b a b, mul_comm b a)

below_zero : (z : ℤ) → lt_z z (pos 0) ≡ not (non_neg z)
below_zero (pos n) = le-ltb n 0 zero-le
below_zero (negsuc n) = refl

same_not : (x y : Bool) → beq (not x) (not y) ≡ beq x y
same_not true true = refl
same_not true false = refl
same_not false true = refl
same_not false false = refl

-- what is not true is false
pub is_false : (t : Bool) → (t ≡ true → ⊥) → t ≡ false
is_false true n = absurd (n refl)
is_false false n = refl

-- what the code knows of a gradient, whose components go by their bits: their sizes, what the products of these come to, and the test of the signs
pub record Sizes (gx gy : ℤ) (a b : ℕ) : Type 0 where
  pub x : a ≡ nat_abs gx
  pub y : b ≡ nat_abs gy
  pub square_x : a * a ≤ 2 ^ 30
  pub square_y : b * b ≤ 2 ^ 30
  pub product : a * b ≤ 2 ^ 30
  pub signs : beq (lt_z (to_z w16 (of_z w16 gx)) (pos 0)) (lt_z (to_z w16 (of_z w16 gy)) (pos 0)) ≡ beq (non_neg gx) (non_neg gy)

pub sizes_of : {gx gy : ℤ} {a b : ℕ} → SFits w16 gx → SFits w16 gy → AbsoluteOf (to_z w16 (of_z w16 gx)) a → AbsoluteOf (to_z w16 (of_z w16 gy)) b → Sizes gx gy a b
sizes_of {gx} {gy} f g p q =
    let x = to_z-of_z w16 gx f in
    let y = to_z-of_z w16 gy g in
    record {
      x = rw x at p.is;
      y = rw y at q.is;
      square_x = mul-le-mul p.most p.most;
      square_y = mul-le-mul q.most q.most;
      product = mul-le-mul p.most q.most;
      signs = rw (x, y, below_zero gx, below_zero gy) (same_not (non_neg gx) (non_neg gy));
    }

-- ---- the sector, by the tests in their order

module _ {gx gy : ℤ} {a b : ℕ} (z : Sizes gx gy a b) where
  pub both_zero : a + b ≡ 0 → 0 ≡ sector_of gx gy
  unfolding sector_of
  both_zero e = let p : a ≡ 0 = omega arith in let q : b ≡ 0 = omega arith in rw (← z.x, ← z.y, p, q)

  module _ (n : a + b ≡ 0 → ⊥) where
    some : (eqb a 0 && eqb b 0) ≡ false
    some = is_false _ (λ e. let p = both (eqb a 0) _ e in n (omega (arith, eqb-true a 0 p.0, eqb-true b 0 p.1)))

    pub along_x : 2 * (a * b) + b * b < a * a → 0 ≡ sector_of gx gy
    unfolding sector_of
    along_x t = let l : (a + b) * (a + b) < 2 * (a * a) = omega (arith, sum_square a b) in rw (← z.x, ← z.y, some, lt-ltb _ _ l)

    module _ (u : a * a ≤ 2 * (a * b) + b * b) where
      not_x : 2 * (a * a) ≤ (a + b) * (a + b)
      not_x = omega (arith, sum_square a b)

      pub along_y : 2 * (a * b) + a * a < b * b → 90 ≡ sector_of gx gy
      unfolding sector_of
      along_y t = let l : (a + b) * (a + b) < 2 * (b * b) = omega (arith, sum_square a b) in rw (← z.x, ← z.y, some, le-ltb _ _ not_x, lt-ltb _ _ l)

      pub diagonal : {s : Bool} → b * b ≤ 2 * (a * b) + a * a
          → beq (lt_z (to_z w16 (of_z w16 gx)) (pos 0)) (lt_z (to_z w16 (of_z w16 gy)) (pos 0)) ≡ s → cond s 45 135 ≡ sector_of gx gy
      unfolding sector_of
      diagonal v e =
          let l : 2 * (b * b) ≤ (a + b) * (a + b) = omega (arith, sum_square a b) in
          rw (← z.x, ← z.y, some, le-ltb _ _ not_x, le-ltb _ _ l, ← z.signs, e)
