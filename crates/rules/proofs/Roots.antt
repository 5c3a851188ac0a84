-- Roots: `near_root` is the whole number nearest a root and the only one; 01's nearest f32 is there and is the only one (01.Gradient.4);
-- Sobel's byte is the least of its rule and the only one (01.Gradient.5). Assumes nothing.
use mathlib.Core.Path.{◌≡◌, refl, ap, ap₂, subst}
use mathlib.Core.Bool.{Bool, true, false, cond}
use Prim.Native.Nat.{ℕ, zero, suc, ◌+◌, ◌-◌, ◌*◌, ◌/◌, ◌^◌, ◌<◌, ◌≤◌}
use native.Mathlib.Nat.{mul-one, mul-le-mul, mul-le-mul_left, mul_assoc, mul_left_comm, mul-add, add-mul, pow-suc, pow-succ', pow-le-pow_right, lt_irrefl}
use native.Mathlib.Nat.{lt_of_not-le}
use native.Mathlib.Omega.{arith}
use lib.Dec.{leb, ltb}
use lib.Ieee.Exact.{HasValue, odd_sign}
use lib.Pow.{pow-add}
use borrow.Author.Tests.{leb-true, leb-false, ltb-true, ltb-false}
use Rattle.rules.specs.Root.{cap_s, scaled, NearestRoot, Near, whole_root, near_root, shift_of, root_of, upper_end, least_from, sobel_byte}

-- a scaled m and k is m * 2^-k, without a sign
pub scaled_is : (m k : ℕ) → HasValue (scaled m k) false m (2 ^ k)
scaled_is m k = subst (λ (n : ℕ). HasValue (scaled m k) false n (2 ^ k)) (mul-one m) (odd_sign 24 false m 0 k)

-- (2a)² and (a + 1)²
dbl_sq : (a : ℕ) → 2 * a * (2 * a) ≡ 4 * (a * a)
dbl_sq a = omega (arith, mul_assoc 2 a (2 * a), mul_left_comm a 2 a)

pub suc_sq : (a : ℕ) → (a + 1) * (a + 1) ≡ a * a + 2 * a + 1
suc_sq a = omega (arith, mul-add (a + 1) a 1, add-mul a 1 a, add-mul a 1 1)

-- (2m - 1)²
less_sq : (m : ℕ) → 0 < m → (2 * m - 1) * (2 * m - 1) + 4 * m ≡ 4 * (m * m) + 1
less_sq m h =
    let e : 2 * m - 1 + 1 ≡ 2 * m = omega arith in
    omega (arith, ap (λ (x : ℕ). x * x) e, suc_sq (2 * m - 1), dbl_sq m)

-- ---- the whole root, one binary digit at a time

record Whole (t r : ℕ) : Type 0 where
  low : r * r ≤ t
  high : t < (r + 1) * (r + 1)

digit : (b : Bool) (q t : ℕ) → leb ((2 * q + 1) * (2 * q + 1)) t ≡ b → Whole (t / 4) q → Whole t (cond b (2 * q + 1) (2 * q))
digit true q t e w = record { low = leb-true _ _ e; high = omega (arith, suc_sq q, suc_sq (2 * q + 1), suc_sq (2 * q), dbl_sq q) }
digit false q t e w = record { low = omega (arith, dbl_sq q); high = leb-false _ _ e }

whole : (d t : ℕ) → t < 4 ^ d → Whole t (whole_root d t)
unfolding whole_root
whole zero t h = record { low = omega arith; high = omega arith }
whole (suc d) t h =
    let l : t / 4 < 4 ^ d = omega (arith, pow-succ' 4 d) in
    digit _ (whole_root d (t / 4)) t refl (whole d (t / 4) l)

-- ---- the whole number nearest the root of t: two tests, which only one number passes

apart : (t a b : ℕ) → Near t a → Near t b → a < b → ⊥
apart t a zero p q h = absurd (omega arith)
apart t a (suc b) p q h = let l : a ≤ b = omega arith in lt_irrefl t (omega (arith, suc_sq b, mul-le-mul l l))

pub near_only : (t a b : ℕ) → Near t a → Near t b → a ≡ b
near_only t a b p q = let l = apart t a b p q in let g = apart t b a q p in omega arith

pub near_is : (t : ℕ) → 0 < t → t < 4 ^ 24 → Near t (near_root t)
unfolding near_root
near_is t p h = go _ (whole_root 24 t) refl (whole 24 t h)
  where
    go : (b : Bool) (r : ℕ) → leb t (r * r + r) ≡ b → Whole t r → Near t (cond b r (r + 1))
    go true zero e w = record { low = omega arith; high = leb-true _ _ e }
    go true (suc r) e w = record { low = omega arith; high = leb-true _ _ e }
    go false r e w = let l : r * r + r < t = leb-false _ _ e in record { low = omega (arith, suc_sq r); high = omega (arith, suc_sq r) }

-- ---- 01's own words: (2m - 1)² < 4t < (2m + 1)² says the same

near_of : (s m k : ℕ) → NearestRoot s m k → Near (s * 4 ^ k) m
near_of s m k n = record { low = omega (arith, less_sq m (omega arith)); high = omega (arith, dbl_sq m, suc_sq (2 * m)) }

pub nearest_of : (s m k : ℕ) → 2 ^ 23 ≤ m → m < 2 ^ 24 → Near (s * 4 ^ k) m → NearestRoot s m k
nearest_of s m k l u n =
    record {
      least = l;
      most = omega arith;
      above = omega (arith, less_sq m (omega arith));
      below = omega (arith, dbl_sq m, suc_sq (2 * m));
    }

-- s brought between 2^46 and the last gap below 2^48, where the nearest root has 24 binary digits
pub record Scaled (s k : ℕ) : Type 0 where
  pub low : 2 ^ 46 ≤ s * 4 ^ k
  pub high : s * 4 ^ k ≤ 2 ^ 48 - 2 ^ 32

pub nearest : (s m k : ℕ) → Scaled s k → Near (s * 4 ^ k) m → NearestRoot s m k
nearest s m k c n =
    let l : m < 2 ^ 23 → ⊥ = λ h. let q : m ≤ 2 ^ 23 - 1 = omega arith in lt_irrefl (s * 4 ^ k) (omega (arith, mul-le-mul q q)) in
    let u : 2 ^ 24 ≤ m → ⊥ = λ h. lt_irrefl (s * 4 ^ k) (omega (arith, mul-le-mul_left m h)) in
    nearest_of s m k (omega arith) (omega arith) n

-- there is one: the shift brings s there
by : (P : ℕ → Type 0) (b : Bool) (s c x y : ℕ) → ltb s c ≡ b → (s < c → P x) → (c ≤ s → P y) → P (cond b x y)
by P true s c x y e f g = f (ltb-true s c e)
by P false s c x y e f g = g (ltb-false s c e)

shift_scales : (s : ℕ) → 0 < s → s < cap_s → Scaled s (shift_of s)
shift_scales s p h =
    by (Scaled s) _ s 4 23 _ refl (λ u. omega arith) (λ l.
    by (Scaled s) _ s 16 22 _ refl (λ u. omega arith) (λ l.
    by (Scaled s) _ s 64 21 _ refl (λ u. omega arith) (λ l.
    by (Scaled s) _ s 256 20 _ refl (λ u. omega arith) (λ l.
    by (Scaled s) _ s 1024 19 _ refl (λ u. omega arith) (λ l.
    by (Scaled s) _ s 4096 18 _ refl (λ u. omega arith) (λ l.
    by (Scaled s) _ s 16384 17 16 refl (λ u. omega arith) (λ l. omega arith)))))))

pub there_is : (s : ℕ) → 0 < s → s < cap_s → NearestRoot s (near_root (s * 4 ^ shift_of s)) (shift_of s)
there_is s p h =
    let c = shift_scales s p h in
    nearest s _ (shift_of s) c (near_is (s * 4 ^ shift_of s) (omega arith) (omega arith))

-- and only one: every one has s * 4^k from 2^46 on (below k = 16 it is too small, and from there on a multiple of 2^32) and below
-- 2^48, so of two with k < k' the second would have four times as much
module _ (s : ℕ) (h : s < cap_s) where
  low_end : (m k : ℕ) → NearestRoot s m k → 2 ^ 46 ≤ s * 4 ^ k
  low_end m k n = go (leb 16 k) refl
    where
      over : 2 ^ 46 - 2 ^ 23 < s * 4 ^ k
      over = let w = near_of s m k n in omega (arith, mul-le-mul_left m n.least)

      go : (b : Bool) → leb 16 k ≡ b → 2 ^ 46 ≤ s * 4 ^ k
      go true e =
          let l : 16 ≤ k = leb-true 16 k e in
          let q : k ≡ k - 16 + 16 = omega arith in
          omega (arith, over, ap (λ (x : ℕ). s * 4 ^ x) q, ap (λ (x : ℕ). s * x) (pow-add 4 (k - 16) 16), mul_assoc s (4 ^ (k - 16)) (4 ^ 16))
      go false e =
          let l : k ≤ 15 = omega (arith, leb-false 16 k e) in
          let u : s ≤ cap_s = omega arith in
          absurd (lt_irrefl (s * 4 ^ k) (omega (arith, over, mul-le-mul u (pow-le-pow_right {n = 4} (omega arith) l))))

  high_end : (m k : ℕ) → NearestRoot s m k → s * 4 ^ k < 2 ^ 48
  high_end m k n = let w = near_of s m k n in omega (arith, mul-le-mul n.most n.most)

  later : (m k m' k' : ℕ) → NearestRoot s m k → NearestRoot s m' k' → k < k' → ⊥
  later m k m' k' n n' l =
      let f : 4 ^ k * 4 ≤ 4 ^ k' = omega (arith, pow-suc 4 k, pow-le-pow_right {n = 4} (omega arith) l) in
      omega (arith, low_end m k n, high_end m' k' n', mul-le-mul_left s f, mul_assoc s (4 ^ k) 4)

  pub only : (m k m' k' : ℕ) → NearestRoot s m k → NearestRoot s m' k' → (m ≡ m') × (k ≡ k')
  only m k m' k' n n' =
      let a = later m k m' k' n n' in
      let b = later m' k' m k n' n in
      let e : k ≡ k' = omega arith in
      (near_only (s * 4 ^ k) m m' (near_of s m k n) (rw e (near_of s m' k' n')), e)

  -- so whatever passes 01's tests is the root
  pub root_is : (m k : ℕ) → 0 < s → NearestRoot s m k → scaled m k ≡ root_of s
  unfolding root_of
  root_is m k p n = let o = only m k _ _ n (there_is s p h) in ap₂ scaled o.0 o.1

-- ---- Sobel's byte

-- n * n + n rises
pub ends_rise : {a b : ℕ} → a ≤ b → upper_end a ≤ upper_end b
ends_rise l = omega (arith, mul-le-mul l l)

-- the least from n, of d numbers: within them, reached if below their end, and not above any that is reached
record Least (s n d r : ℕ) : Type 0 where
  from : n ≤ r
  within : r ≤ n + d
  reached : r < n + d → s ≤ upper_end r
  least : (k : ℕ) → n ≤ k → s ≤ upper_end k → r ≤ k

least_is : (s n d : ℕ) → Least s n d (least_from s n d)
unfolding least_from
least_is s n zero = record { from = omega arith; within = omega arith; reached = λ h. omega arith; least = λ k l h. l }
least_is s n (suc d) = go _ refl (least_is s (suc n) d)
  where
    -- not reached at n, so past it
    past : leb s (upper_end n) ≡ false → (k : ℕ) → n ≤ k → s ≤ upper_end k → suc n ≤ k
    past e k l h = lt_of_not-le (λ (g : k ≤ n). lt_irrefl s (omega (arith, ends_rise g, leb-false s (upper_end n) e)))

    go : (b : Bool) → leb s (upper_end n) ≡ b → Least s (suc n) d (least_from s (suc n) d) → Least s n (suc d) (cond b n (least_from s (suc n) d))
    go true e w = record { from = omega arith; within = omega arith; reached = λ h. leb-true _ _ e; least = λ k l h. l }
    go false e w =
        record {
          from = omega arith;
          within = omega arith;
          reached = λ h. w.reached (omega arith);
          least = λ k l h. w.least k (past e k l h) h;
        }

-- 01's own words: the least n from 0 to 254 with s at most its upper end, else 255
pub record LeastByte (s r : ℕ) : Type 0 where
  pub most : r ≤ 255
  pub reached : r < 255 → s ≤ upper_end r
  pub least : (n : ℕ) → n < 255 → s ≤ upper_end n → r ≤ n

pub byte_is : (s : ℕ) → LeastByte s (sobel_byte s)
unfolding sobel_byte
byte_is s = let w = least_is s 0 255 in record { most = w.within; reached = w.reached; least = λ n l h. w.least n (omega arith) h }

not_above : (s a b : ℕ) → LeastByte s a → LeastByte s b → a < b → ⊥
not_above s a b p q l =
    let m = q.most in
    let g : b ≤ a = q.least a (omega arith) (p.reached (omega arith)) in
    omega arith

pub byte_only : (s a b : ℕ) → LeastByte s a → LeastByte s b → a ≡ b
byte_only s a b p q = let l = not_above s a b p q in let g = not_above s b a q p in omega arith

-- above the last end it is 255
pub byte_over : (s : ℕ) → upper_end 254 < s → 255 ≡ sobel_byte s
byte_over s h = byte_only s 255 (sobel_byte s) (record { most = omega arith; reached = λ l. omega arith; least = least }) (byte_is s)
  where
    least : (n : ℕ) → n < 255 → s ≤ upper_end n → 255 ≤ n
    least n l u = let f : n ≤ 254 = omega arith in absurd (lt_irrefl s (omega (arith, ends_rise f)))
