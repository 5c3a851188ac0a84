-- A guess tested: what passes the code's tests is the magnitude itself. Assumes nothing.
use Rattle.std.proofs.Common.{◌≡◌, ℕ, zero, suc, ◌+◌, ◌-◌, ◌*◌, ◌/◌, ◌%◌, ◌^◌, ◌<◌, ◌≤◌, ap, ◌∙◌, mul-le-mul_right, mul_assoc, mul-le-mul, zero-mul, mul-add, arith, pow-add, ne_eqb, le-leb}
use native.Mathlib.Nat.{pow-le-pow_right}
use lib.Ieee.{binary32, of_bits, of_int}
use borrow.Author.Tests.{lt-leb}
use Rattle.rules.specs.Root.{cap_s, Near, magnitude_of}
use Rattle.rules.proofs.Patterns.{pattern, pattern_is}
use Rattle.rules.proofs.Roots.{nearest_of, root_is}
use Rattle.pixel.specs.Guess.{BitsOf}
use Rattle.pixel.proofs.Mending.{four, cap_is}

-- m² + m reaches t * 2^32 by less than 2m: its upper half is t, and its lower half is less
pub reaches : {t m : ℕ} → m * (m + 1) / 2 ^ 32 ≡ t → m * (m + 1) % 2 ^ 32 < 2 * m → Near (t * 2 ^ 32) m
reaches {t} {m} h l = record { low = omega (arith, mul-add m m 1); high = omega (arith, mul-add m m 1) }

-- a number near the root of nothing is small
some_sum : (s x : ℕ) {m : ℕ} → 2 ≤ m → m * m < s * x + m → 0 < s
some_sum zero x {m} l h = absurd (omega (arith, zero-mul x, mul-le-mul_right m l))
some_sum (suc s) x l h = omega arith

-- ---- the three kinds of bits

pub zero_bits : {s b : ℕ} → s ≡ 0 → b ≡ 0 → BitsOf s b
unfolding magnitude_of of_bits of_int
zero_bits e f = record { some = λ g. omega arith; are = rw (e, f) }

pub cap_bits : {s b : ℕ} → cap_s ≤ s → b ≡ 0x437f_0000 → BitsOf s b
unfolding magnitude_of
cap_bits {s} h f = record { some = λ g. omega arith; are = rw (f, ne_eqb s 0 (λ e. omega arith), le-leb cap_s s h) cap_is }

module _ {s b t : ℕ} (h : s < cap_s) (l : 0x3f80_0000 ≤ b) (u : b < 0x4380_0000) (q : t ≡ s * 2 ^ (2 * (7 - (b / 8388608 + 1) % 8)) % 2 ^ 32)
    (n : Near (t * 2 ^ 32) (b % 8388608 + 8388608)) where
  -- the digits and the scale that the bits tell
  abbrev m : ℕ
  m = b % 8388608 + 8388608

  abbrev i : ℕ
  i = 134 - b / 8388608

  -- no digit of s * 4^i is lost
  target : t ≡ s * 4 ^ i
  target =
      let a : 2 * (7 - (b / 8388608 + 1) % 8) ≡ i + i = omega arith in
      let k : i ≤ 7 = omega arith in
      let g : s ≤ 65024 = omega arith in
      let v = mul-le-mul g (pow-le-pow_right {n = 4} (omega arith) k) in
      omega (arith, rw (a, ← four i) at q)

  near : Near (s * 4 ^ (i + 16)) m
  near =
      let e : t * 2 ^ 32 ≡ s * 4 ^ (i + 16) = rw (target, pow-add 4 i 16) (mul_assoc s (4 ^ i) (4 ^ 16)) in
      rw e at n

  pub root_bits : BitsOf s b
  unfolding magnitude_of
  root_bits =
      let p : 0 < s = some_sum s (4 ^ (i + 16)) (omega arith) near.low in
      let e : b ≡ pattern m (i + 16) = omega arith in
      record {
        some = λ g. omega arith;
        are =
            rw (ne_eqb s 0 (λ y. omega arith), lt-leb cap_s s h)
            (ap (of_bits binary32) e ∙ pattern_is m (i + 16) (omega arith) (omega arith) (omega arith)
            ∙ root_is s h m (i + 16) p (nearest_of s m (i + 16) (omega arith) (omega arith) near));
      }
