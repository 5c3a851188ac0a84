-- A guess mended to the nearest root: what passes both tests is the root of 01's own words. Assumes nothing.
use Rattle.std.proofs.Common.{◌≡◌, ℕ, zero, suc, ◌+◌, ◌-◌, ◌*◌, ◌/◌, ◌^◌, ◌<◌, ◌≤◌, not, T, pos, refl, ap, ◌∙◌, lt_irrefl, mul-le-mul_right, add-mul, arith, pow_mono, pow-add}
use native.Mathlib.Nat.{pow-succ'}
use lib.Count.{count_leading_zeros, leading_top}
use lib.Ieee.{binary32, of_bits, of_int, nan_bits}
use Rattle.rules.specs.Sums.{whole_f32}
use Rattle.rules.specs.Root.{cap_s, NearestRoot, near_root, root_of}
use Rattle.rules.proofs.Patterns.{pattern, pattern_ok, pattern_is}
use Rattle.rules.proofs.Roots.{near_is, Scaled, nearest, root_is}

-- ---- the scale, by the leading zeros

pub four : (i : ℕ) → 4 ^ i ≡ 2 ^ (i + i)
four zero = refl
four (suc i) =
    let e : suc i + suc i ≡ suc (suc (i + i)) = omega arith in
    omega (arith, four i, pow-succ' 4 i, ap (λ (x : ℕ). 2 ^ x) e, pow-succ' 2 (suc (i + i)), pow-succ' 2 (i + i))

pub record Scale (s k : ℕ) : Type 0 where
  pub least : 16 ≤ k
  pub most : k ≤ 23
  pub scales : Scaled s k

by_top : (s j : ℕ) → 2 ^ j ≤ s → s < 2 ^ suc j → s < cap_s → Scale s (23 - j / 2)
by_top s j l u h =
    let k = 23 - j / 2 in
    let few : 16 ≤ j → ⊥ = λ g. lt_irrefl s (omega (arith, pow_mono g)) in
    let v : s + 1 ≤ 2 ^ suc j = omega arith in
    let a : 46 ≤ j + (k + k) = omega arith in
    let b : suc j + (k + k) ≤ 48 = omega arith in
    let c : 32 ≤ k + k = omega arith in
    record {
      least = omega arith;
      most = omega arith;
      scales = record {
        low = rw (four k) (omega (arith, mul-le-mul_right (2 ^ (k + k)) l, pow-add 2 j (k + k), pow_mono a));
        high = rw (four k) (omega (arith, mul-le-mul_right (2 ^ (k + k)) v, add-mul s 1 (2 ^ (k + k)), pow-add 2 (suc j) (k + k), pow_mono b, pow_mono c));
      };
    }

-- the code's k
abbrev pub shift : ℕ → ℕ
shift s = 23 - (31 - count_leading_zeros 32 s) / 2

pub shift_is : {s : ℕ} → (0 < s) × (s < cap_s) → (count_leading_zeros 32 s ≤ 31) × Scale s (shift s)
shift_is {s} p =
    let t = leading_top 32 s p.0 (omega arith) in
    let e : 31 - count_leading_zeros 32 s ≡ t.0 = omega (arith, t.1) in
    (omega (arith, t.1), rw e (by_top s t.0 t.2 t.3 p.1))

-- ---- the code's way: t is s times the table's power of four, m what the loops leave

module _ {s f : ℕ} (p : (0 < s) × (s < cap_s)) (e : f ≡ 4 ^ (shift s - 16 + 16)) where
  scale : Scale s (shift s)
  scale = (shift_is p).1

  times : s * f ≡ s * 4 ^ shift s
  times = let q : shift s - 16 + 16 ≡ shift s = omega (arith, scale.least) in rw (e, q)

  pub within : (2 ^ 46 ≤ s * f) × (s * f ≤ 2 ^ 48 - 2 ^ 32)
  within = rw times (scale.scales.low, scale.scales.high)

  module _ {m : ℕ} (q : m ≡ near_root (s * f)) where
    pub found : NearestRoot s m (shift s)
    found = nearest s m (shift s) scale.scales (rw (q, ← times) (near_is (s * f) (omega (arith, within)) (omega (arith, within))))

    pub bits_fine : T (not (nan_bits binary32 (pattern m (shift s))))
    bits_fine = pattern_ok m (shift s) scale.most found.least (omega (arith, found.most))

    pub bits_are : of_bits binary32 (pattern m (shift s)) ≡ root_of s
    bits_are = pattern_is m (shift s) scale.most found.least (omega (arith, found.most)) ∙ root_is s p.1 m (shift s) p.0 found

-- 255 as the code writes it
pub cap_is : of_bits binary32 0x437f_0000 ≡ whole_f32 (pos 255)
unfolding of_bits of_int
cap_is = refl
