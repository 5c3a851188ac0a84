-- The f32 that a bit pattern of 24 digits m and a scale k stands for: m * 2^-k. Assumes nothing.
use mathlib.Core.Path.{◌≡◌, refl, sym, ap, ◌∙◌}
use mathlib.Core.Bool.{Bool, true, false, not, cond}
use Prim.Native.Nat.{ℕ, zero, suc, ◌+◌, ◌-◌, ◌*◌, ◌/◌, ◌%◌, ◌^◌, ◌<◌, ◌≤◌}
use native.Mathlib.Nat.{zero-add}
use native.Mathlib.Omega.{arith}
use lib.Dec.{T, leb}
use lib.IntN.{pos, negsuc}
use lib.Count.{count_trailing_zeros}
use lib.Ieee.{fin, binary32, odd, minus, of_bits, nan_bits}
use lib.Ieee.Bits.{nan_bits_above}
use borrow.Author.Tests.{leb-true, leb-false, le-leb, lt-leb, le-ltb, ne_eqb}
use Rattle.rules.specs.Root.{scaled}

-- an odd form does not depend on the unit that it is counted in
minus_case : (b : Bool) (l k t : ℕ) → k ≤ l → leb k t ≡ b → minus (l - k + t) l ≡ cond b (pos (t - k)) (negsuc (k - suc t))
minus_case true l k t h e =
    let g : k ≤ t = leb-true k t e in
    let a : l ≤ l - k + t = omega arith in
    let d : l - k + t - l ≡ t - k = omega arith in
    rw (le-leb l (l - k + t) a, d)
minus_case false l k t h e =
    let g : t < k = leb-false k t e in
    let a : l - k + t < l = omega arith in
    let d : l - suc (l - k + t) ≡ k - suc t = omega arith in
    rw (lt-leb l (l - k + t) a, d)

odd_unit : (d : ℕ) (s : Bool) (q l k : ℕ) → k ≤ l → odd d s q (l - k) l ≡ odd d s q 0 k
unfolding odd
odd_unit d s zero l k h = refl
odd_unit d s (suc q) l k h =
    let t = count_trailing_zeros d (suc q) in
    ap (fin s (suc q / 2 ^ t)) (minus_case _ l k t h refl ∙ ap (λ (x : ℕ). minus x k) (sym (zero-add t)))

-- the exponent field 150 - k, then the digits of m below the leading one
abbrev pub pattern : ℕ → ℕ → ℕ
pattern m k = (150 - k) * 8388608 + (m - 8388608)

module _ (m k : ℕ) (h : k ≤ 23) (l : 8388608 ≤ m) (u : m < 16777216) where
  field : pattern m k % 2147483648 / 8388608 ≡ suc (149 - k)
  field = omega arith

  digits : pattern m k % 8388608 ≡ m - 8388608
  digits = omega arith

  -- it is no NaN's
  pub pattern_ok : T (not (nan_bits binary32 (pattern m k)))
  pattern_ok = rw (nan_bits_above binary32 (pattern m k), le-ltb _ _ below) tt
    where
      below : pattern m k % 2147483648 ≤ 2139095040
      below = omega arith

  pub pattern_is : of_bits binary32 (pattern m k) ≡ scaled m k
  unfolding of_bits
  pattern_is =
      let g : pattern m k < 2147483648 = omega arith in
      let n : suc (149 - k) ≡ 255 → ⊥ = λ e. omega arith in
      let s : 8388608 + (m - 8388608) ≡ m = omega arith in
      rw (lt-leb 2147483648 (pattern m k) g, field, digits, ne_eqb (suc (149 - k)) 255 n, s) (odd_unit 24 false m 149 k (omega arith))
