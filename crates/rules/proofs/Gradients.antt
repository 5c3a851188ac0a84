-- Sobel's components on bytes: each within 1020 of zero, both of one parity, S at most 2,080,800 (01.Gradient.2, 01.Gradient.3). Assumes nothing.
use mathlib.Core.Path.{◌≡◌, refl, sym, ap, ap₂, ◌∙◌}
use mathlib.Core.Bool.{Bool, true, false, cond}
use mathlib.Core.List.{List}
use Prim.Native.Nat.{ℕ, zero, suc, ◌+◌, ◌-◌, ◌*◌, ◌/◌, ◌%◌, ◌<◌, ◌≤◌}
use native.Mathlib.Nat.{mul-le-mul}
use native.Mathlib.Omega.{arith}
use lib.Dec.{ltb}
use lib.ListN.{get_or}
use lib.IntN.{ℤ, pos, negsuc, neg_ℤ, nat_abs, sub_ℕ, ◌+ℤ◌, ◌*ℤ◌}
use borrow.Author.Tests.{ltb-true, ltb-false}
use Rattle.rules.specs.Border.{resolved, entry_at, sample_at, byte_sample, under}
use lib.Ieee.Exact.{HasValue}
use Rattle.rules.specs.Sums.{whole_f32}
use Rattle.rules.proofs.Floats.{whole_exact}
use Rattle.rules.specs.Gradient.{gx_table, gy_table, sum_z, gradient_term, gradient_at, energy}
use Rattle.rules.specs.declared.Size.{Size}
use Rattle.rules.specs.declared.BorderMode.{BorderMode}
use Rattle.rules.specs.declared.Coord.{Coord}
use Rattle.rules.specs.declared.Coord.TheVariants.{At, Nothing, Refused}

-- ---- differences p - n: a weight adds to one side of them

-- how two naturals compare, and their difference then
by_order : (P : ℤ → Type 0) (p n : ℕ) → (p < n → P (negsuc (n - suc p))) → (n ≤ p → P (pos (p - n))) → P (sub_ℕ p n)
by_order P p n f g = go (ltb p n) refl
  where
    go : (b : Bool) → ltb p n ≡ b → P (cond b (negsuc (n - suc p)) (pos (p - n)))
    go true e = f (ltb-true p n e)
    go false e = g (ltb-false p n e)

-- negsuc and pos as differences
negative_is : (k p n : ℕ) → n ≡ suc (p + k) → negsuc k ≡ sub_ℕ p n
negative_is k p n e = by_order (λ z. negsuc k ≡ z) p n (λ l. ap negsuc (omega arith)) (λ l. absurd (omega arith))

natural_is : (k p n : ℕ) → p ≡ n + k → pos k ≡ sub_ℕ p n
natural_is k p n e = by_order (λ z. pos k ≡ z) p n (λ l. absurd (omega arith)) (λ l. ap pos (omega arith))

plus : (p n a : ℕ) → sub_ℕ p n +ℤ pos a ≡ sub_ℕ (p + a) n
plus p n a =
    by_order (λ z. z +ℤ pos a ≡ sub_ℕ (p + a) n) p n
    (λ l. by_order (λ z. z ≡ sub_ℕ (p + a) n) a (suc (n - suc p))
    (λ m. negative_is (suc (n - suc p) - suc a) (p + a) n (omega arith))
    (λ m. natural_is (a - suc (n - suc p)) (p + a) n (omega arith)))
    (λ l. natural_is (p - n + a) (p + a) n (omega arith))

minus : (p n a : ℕ) → sub_ℕ p n +ℤ neg_ℤ (pos a) ≡ sub_ℕ p (n + a)
minus p n zero = let e : p + 0 ≡ p = omega arith in let f : n + 0 ≡ n = omega arith in rw f (rw e at (plus p n 0))
minus p n (suc a) =
    by_order (λ z. z +ℤ negsuc a ≡ sub_ℕ p (n + suc a)) p n
    (λ l. negative_is (suc (n - suc p + a)) p (n + suc a) (omega arith))
    (λ l. by_order (λ z. z ≡ sub_ℕ p (n + suc a)) (p - n) (suc a)
    (λ m. negative_is (suc a - suc (p - n)) p (n + suc a) (omega arith))
    (λ m. natural_is (p - n - suc a) p (n + suc a) (omega arith)))

-- a weighted sum is what its positive weights give, less what its negative ones give
abbrev gain : ℤ → ℕ
gain (pos a) = a
gain (negsuc a) = 0

abbrev loss : ℤ → ℕ
loss (pos a) = 0
loss (negsuc a) = suc a

abbrev sum : (ℕ → ℕ) → ℕ → ℕ
sum f zero = 0
sum f (suc n) = sum f n + f n

split : (t : ℕ → ℤ) (s : ℕ → ℕ) (n : ℕ) → sum_z (λ j. t j *ℤ pos (s j)) n ≡ sub_ℕ (sum (λ j. gain (t j) * s j) n) (sum (λ j. loss (t j) * s j) n)
unfolding sum_z
split t s zero = refl
split t s (suc n) = rw (split t s n) (go (t n) (sum (λ j. gain (t j) * s j) n) (sum (λ j. loss (t j) * s j) n))
  where
    go : (z : ℤ) (p q : ℕ) → sub_ℕ p q +ℤ z *ℤ pos (s n) ≡ sub_ℕ (p + gain z * s n) (q + loss z * s n)
    go (pos a) p q = let e : q + 0 * s n ≡ q = omega arith in rw e (plus p q (a * s n))
    go (negsuc a) p q = let e : p + 0 * s n ≡ p = omega arith in rw e (minus p q (suc a * s n))

size_of : (p n b : ℕ) → p ≤ b → n ≤ b → nat_abs (sub_ℕ p n) ≤ b
size_of p n b h k = by_order (λ z. nat_abs z ≤ b) p n (λ l. omega arith) (λ l. omega arith)

parity_of : (p n : ℕ) → nat_abs (sub_ℕ p n) % 2 ≡ (p + n) % 2
parity_of p n = by_order (λ z. nat_abs z % 2 ≡ (p + n) % 2) p n (λ l. omega arith) (λ l. omega arith)

-- ---- nine bytes about a pixel, weighted

-- a component of nine numbers, in row order
unfoldable pub weighted : List ℤ → (ℕ → ℕ) → ℤ
weighted table s = sum_z (λ j. get_or table j (pos 0) *ℤ pos (s j)) 9

-- the right-hand column less the left-hand one, and the lower row less the upper
gx_is : (s : ℕ → ℕ) → weighted gx_table s ≡ sub_ℕ (s 2 + 2 * s 5 + s 8) (s 0 + 2 * s 3 + s 6)
unfolding weighted
gx_is s =
    let p : sum (λ j. gain (get_or gx_table j (pos 0)) * s j) 9 ≡ s 2 + 2 * s 5 + s 8 = omega arith in
    let n : sum (λ j. loss (get_or gx_table j (pos 0)) * s j) 9 ≡ s 0 + 2 * s 3 + s 6 = omega arith in
    split (λ j. get_or gx_table j (pos 0)) s 9 ∙ ap₂ sub_ℕ p n

gy_is : (s : ℕ → ℕ) → weighted gy_table s ≡ sub_ℕ (s 6 + 2 * s 7 + s 8) (s 0 + 2 * s 1 + s 2)
unfolding weighted
gy_is s =
    let p : sum (λ j. gain (get_or gy_table j (pos 0)) * s j) 9 ≡ s 6 + 2 * s 7 + s 8 = omega arith in
    let n : sum (λ j. loss (get_or gy_table j (pos 0)) * s j) 9 ≡ s 0 + 2 * s 1 + s 2 = omega arith in
    split (λ j. get_or gy_table j (pos 0)) s 9 ∙ ap₂ sub_ℕ p n

-- what the nine samples are
abbrev pub Bytes : (ℕ → ℕ) → Type 0
Bytes s = (j : ℕ) → s j ≤ 255

module _ (s : ℕ → ℕ) (b : Bytes s) where
  pub gx_small : nat_abs (weighted gx_table s) ≤ 1020
  gx_small = rw (gx_is s) (size_of (s 2 + 2 * s 5 + s 8) (s 0 + 2 * s 3 + s 6) 1020 (omega (arith, b 2, b 5, b 8)) (omega (arith, b 0, b 3, b 6)))

  pub gy_small : nat_abs (weighted gy_table s) ≤ 1020
  gy_small = rw (gy_is s) (size_of (s 6 + 2 * s 7 + s 8) (s 0 + 2 * s 1 + s 2) 1020 (omega (arith, b 6, b 7, b 8)) (omega (arith, b 0, b 1, b 2)))

  pub one_parity : nat_abs (weighted gx_table s) % 2 ≡ nat_abs (weighted gy_table s) % 2
  one_parity =
      rw (gx_is s, gy_is s)
      (parity_of (s 2 + 2 * s 5 + s 8) (s 0 + 2 * s 3 + s 6) ∙ even ∙ sym (parity_of (s 6 + 2 * s 7 + s 8) (s 0 + 2 * s 1 + s 2)))
    where
      even : (s 2 + 2 * s 5 + s 8 + (s 0 + 2 * s 3 + s 6)) % 2 ≡ (s 6 + 2 * s 7 + s 8 + (s 0 + 2 * s 1 + s 2)) % 2
      even = omega arith

  pub energy_small : energy (weighted gx_table s) (weighted gy_table s) ≤ 2080800
  energy_small = omega (arith, mul-le-mul gx_small gx_small, mul-le-mul gy_small gy_small)

-- ---- of a picture of bytes

-- sample j of the nine about (x, y)
abbrev pub nine_at : Size → BorderMode → List ℕ → ℕ → ℕ → ℕ → ℕ
nine_at d mode pixels x y j = byte_sample pixels d mode (under x 3 (j % 3)) (under y 3 (j / 3))

pub gradient_is : (table : List ℤ) (d : Size) (mode : BorderMode) (pixels : List ℕ) (x y : ℕ)
    → gradient_at table d mode pixels x y ≡ weighted table (nine_at d mode pixels x y)
unfolding gradient_at gradient_term weighted
gradient_is table d mode pixels x y = refl

module _ (d : Size) (mode : BorderMode) (pixels : List ℕ) (byte : (i : ℕ) → get_or pixels i 0 < 256) where
  -- a sample is an entry, or 0
  entry_byte : (cx cy : Coord) → entry_at 0 (λ i. get_or pixels i 0) d.width cx cy ≤ 255
  entry_byte (At x) (At y) = omega (arith, byte (y * d.width + x))
  entry_byte (At x) Nothing = omega arith
  entry_byte (At x) Refused = omega arith
  entry_byte Nothing c = omega arith
  entry_byte Refused c = omega arith

  pub sample_byte : (cx cy : ℤ) → byte_sample pixels d mode cx cy ≤ 255
  unfolding sample_at
  sample_byte cx cy = entry_byte (resolved mode cx d.width) (resolved mode cy d.height)

  module _ (x y : ℕ) where
    -- the two components
    abbrev pub gx : ℤ
    gx = gradient_at gx_table d mode pixels x y

    abbrev pub gy : ℤ
    gy = gradient_at gy_table d mode pixels x y

    abbrev nine : ℕ → ℕ
    nine = nine_at d mode pixels x y

    nine_bytes : Bytes nine
    nine_bytes j = sample_byte (under x 3 (j % 3)) (under y 3 (j / 3))

    pub gx_within : nat_abs gx ≤ 1020
    gx_within = rw (gradient_is gx_table d mode pixels x y) (gx_small nine nine_bytes)

    pub gy_within : nat_abs gy ≤ 1020
    gy_within = rw (gradient_is gy_table d mode pixels x y) (gy_small nine nine_bytes)

    pub same_parity : nat_abs gx % 2 ≡ nat_abs gy % 2
    same_parity = rw (gradient_is gx_table d mode pixels x y, gradient_is gy_table d mode pixels x y) (one_parity nine nine_bytes)

    pub energy_within : energy gx gy ≤ 2080800
    energy_within = rw (gradient_is gx_table d mode pixels x y, gradient_is gy_table d mode pixels x y) (energy_small nine nine_bytes)

    -- so S is exact as an f32 (01.Gradient.3); the port keeps it a whole number
    pub energy_exact : HasValue (whole_f32 (pos (energy gx gy))) false (energy gx gy) 1
    energy_exact = whole_exact _ (omega (arith, energy_within))
