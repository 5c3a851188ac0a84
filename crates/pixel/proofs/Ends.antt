-- A byte that its end in the table lets pass is Sobel's byte. Assumes nothing.
use Rattle.std.proofs.Common.{◌≡◌, ℕ, ◌+◌, ◌-◌, ◌*◌, ◌%◌, ◌^◌, ◌<◌, ◌≤◌, Bool, true, false, ◌&&◌, ◌||◌, eqb, ltb, leb, ◌⊎◌, refl, ap, ◌∙◌, ⊎_elim, lt_irrefl, add-mul, mul-add, arith, ltb-false, ltb-true, le-ltb, lt-ltb, eqb-true, leb-true}
use Rattle.rules.specs.Root.{upper_end, sobel_byte}
use Rattle.rules.proofs.Bools.{both, either}
use Rattle.rules.proofs.Roots.{ends_rise, byte_is, byte_over}
use Rattle.pixel.specs.Halving.{place_of}

-- ---- the place of an end

pub place_own : (n : ℕ) → n < 255 → place_of n ≡ n
unfolding place_of
place_own n h = rw (lt-ltb n 255 h)

pub place_last : (n : ℕ) → 255 ≤ n → place_of n ≡ 254
unfolding place_of
place_last n h = rw (le-ltb n 255 h)

pub place_in_lem : (n : ℕ) → place_of n ≤ 254
place_in_lem n = go _ refl
  where
    go : (b : Bool) → ltb n 255 ≡ b → place_of n ≤ 254
    go true e = let h = ltb-true n 255 e in omega (arith, place_own n h)
    go false e = omega (arith, place_last n (ltb-false n 255 e))

pub end_most : (n : ℕ) → upper_end (place_of n) ≤ 64770
end_most n = ends_rise (place_in_lem n)

-- ---- a byte that passes

suc_square : {n : ℕ} (m : ℕ) → m + 1 ≡ n → n * n ≡ m * m + 2 * m + 1
suc_square m e = rw (← e) (omega (arith, add-mul m 1 (m + 1), mul-add m m 1))

-- s is at most the byte's own end, and above the one before it
within : (s n : ℕ) → n < 255 → s ≤ upper_end n → upper_end n < s + 2 * n → n ≡ sobel_byte s
within s n h u l =
    let most = (byte_is s).least n h u in
    let past = before in
    omega arith
  where
    before : sobel_byte s < n → ⊥
    before k =
        let f : sobel_byte s ≤ n - 1 = omega arith in
        let e : n - 1 + 1 ≡ n = omega arith in
        let q : n * n ≡ (n - 1) * (n - 1) + 2 * (n - 1) + 1 = suc_square (n - 1) e in
        lt_irrefl s (omega (arith, (byte_is s).reached (omega arith), ends_rise f))

-- the code's test
pub passes : (end s n : ℕ) {over : ℕ} → over ≡ (s + 2 * n) % 2 ^ 16
    → (ltb n 255 && (leb s end && (ltb end over || eqb n 0)) || eqb n 255 && ltb end s) ≡ true
    → end ≡ upper_end (place_of n) → n ≡ sobel_byte s
passes end s n {over} w t e =
    ⊎_elim
    (λ (p : (ltb n 255 && (leb s end && (ltb end over || eqb n 0))) ≡ true).
    let a = both (ltb n 255) _ p in
    let b = both (leb s end) _ a.1 in
    let h = ltb-true n 255 a.0 in
    own h (leb-true s end b.0) (either (ltb end over) (eqb n 0) b.1))
    (λ (p : (eqb n 255 && ltb end s) ≡ true).
    let a = both (eqb n 255) _ p in
    let k = eqb-true n 255 a.0 in
    k ∙ byte_over s (omega (arith, ltb-true end s a.1, e, ap upper_end (place_last n (omega (arith, k))))))
    (either _ _ t)
  where
    own : n < 255 → s ≤ end → (ltb end over ≡ true) ⊎ (eqb n 0 ≡ true) → n ≡ sobel_byte s
    own h u o =
        let q : end ≡ upper_end n = e ∙ ap upper_end (place_own n h) in
        ⊎_elim (λ (l : ltb end over ≡ true). within s n h (omega (arith, q)) (omega (arith, q, w, e, end_most n, ltb-true end over l)))
        (λ (z : eqb n 0 ≡ true). let k = eqb-true n 0 z in omega (arith, k, (byte_is s).least n h (omega (arith, q)))) o
