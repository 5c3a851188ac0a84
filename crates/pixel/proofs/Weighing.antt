-- A component of nine bytes, as the code sums it at 16 bits. Assumes nothing.
use Rattle.std.proofs.Common.{◌≡◌, ℕ, zero, suc, ◌+◌, ◌*◌, ◌^◌, ◌<◌, ◌≤◌, Bool, true, ◌&&◌, T, leb, List, [], ◌∷◌, length, get_or, ℤ, pos, ◌+ℤ◌, ◌*ℤ◌, nat_abs, mul-le-mul, add-one, arith, leb→le, w16, SFits, to_z, of_z}
use lib.Ieee.Fits.{and_l, and_r}
use lib.Signed.{mag}
use mir.ValLaws.{to_z-of_z, to_z_pos}
use Rattle.rules.specs.Gradient.{sum_z}
use Rattle.rules.proofs.Sizes.{sfits, back, abs_mul, sum_size}
use Rattle.pixel.specs.Components.{Weights}

-- what is stored as an i16 is read back
pub stored : (z : ℤ) → mag z < 2 ^ 15 → to_z w16 (of_z w16 z) ≡ z
stored z h = to_z-of_z w16 z (record { sfits = h })

-- term j
abbrev pub term : List ℤ → List ℕ → ℕ → ℤ
term table nine j = get_or table j (pos 0) *ℤ pos (get_or nine j 0)

-- a table of small weights, and nine bytes
pub record Lent (table : List ℤ) (nine : List ℕ) : Type 0 where
  pub small : Weights table
  pub byte : (i : ℕ) → get_or nine i 0 < 256

module _ {table : List ℤ} {nine : List ℕ} (k : Lent table nine) where
  term_size : (j : ℕ) → nat_abs (term table nine j) ≤ 510
  term_size j =
      let l : get_or nine j 0 ≤ 255 = omega (arith, k.byte j) in
      omega (arith, abs_mul (get_or table j (pos 0)) (pos (get_or nine j 0)), mul-le-mul (k.small.small j) l)

  pub sum_within : (n : ℕ) → nat_abs (sum_z (term table nine) n) ≤ 510 * n
  sum_within n = sum_size (term table nine) 510 n term_size

  -- as the code multiplies and adds
  abbrev product : ℕ → ℤ
  product j = to_z w16 (of_z w16 (get_or table j (pos 0))) *ℤ to_z w16 (get_or nine j 0)

  product_is : (j : ℕ) → product j ≡ term table nine j
  product_is j =
      let l : get_or nine j 0 < 2 ^ 15 = omega (arith, k.byte j) in
      rw (back w16 (get_or table j (pos 0)) (omega (arith, k.small.small j)), to_z_pos w16 (get_or nine j 0) l)

  module _ {j bits : ℕ} (l : j < 9) (e : bits ≡ of_z w16 (sum_z (term table nine) j)) where
    pub sum_is : to_z w16 bits +ℤ to_z w16 (of_z w16 (product j)) ≡ sum_z (term table nine) (j + 1)
    unfolding sum_z
    sum_is =
        let f = back w16 (sum_z (term table nine) j) (omega (arith, sum_within j)) in
        rw (e, f, product_is j, back w16 (term table nine j) (omega (arith, term_size j)), add-one)

    pub sum_fits : SFits w16 (to_z w16 bits +ℤ to_z w16 (of_z w16 (product j)))
    sum_fits = rw sum_is (sfits w16 (sum_z (term table nine) (j + 1)) (omega (arith, sum_within (j + 1))))

  -- the next sum, of a sum that is a number already
  pub sum_next : {j : ℕ} {x : ℤ} → j < 9 → x ≡ sum_z (term table nine) j → x +ℤ to_z w16 (of_z w16 (product j)) ≡ sum_z (term table nine) (j + 1)
  unfolding sum_z
  sum_next {j} l e = rw (e, product_is j, back w16 (term table nine j) (omega (arith, term_size j)), add-one)

-- ---- a table that the checker can compute has small weights: one test

abbrev within : List ℤ → Bool
within [] = true
within (z ∷ zs) = leb (nat_abs z) 2 && within zs

sizes : (l : List ℤ) → T (within l) → (j : ℕ) → nat_abs (get_or l j (pos 0)) ≤ 2
sizes [] t j = omega arith
sizes (z ∷ zs) t zero = leb→le (nat_abs z) 2 (and_l (leb (nat_abs z) 2) (within zs) t)
sizes (z ∷ zs) t (suc j) = sizes zs (and_r (leb (nat_abs z) 2) (within zs) t) j

pub weights : (l : List ℤ) → length l ≡ 9 → T (within l) → Weights l
weights l n t = record { count = n; small = sizes l t }
