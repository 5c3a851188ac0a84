-- Numbers in decimal: the digits of a tenth, then the last; and how many there are. Assumes nothing.
use mathlib.Core.Path.{◌≡◌, refl, ap, ◌∙◌}
use mathlib.Core.Bool.{Bool, true, false}
use mathlib.Core.List.{[], ◌∷◌, ◌++◌}
use Prim.Native.Nat.{ℕ, zero, suc, ◌+◌, ◌/◌, ◌%◌, ◌<◌, ◌≤◌}
use native.Mathlib.Omega.{arith}
use lib.Dec.{ltb}
use lib.ListN.{length, length-append}
use borrow.Author.Tests.{lt-ltb, le-ltb, ltb-true, ltb-false}
use Rattle.rules.specs.Frame.{decimal_by, decimal}

-- any bound that is not below the number gives the same digits
enough : (m k n : ℕ) → n ≤ m → n ≤ k → decimal_by (suc m) n ≡ decimal_by (suc k) n
unfolding decimal_by
enough zero k n p q = let h : n < 10 = omega arith in rw (lt-ltb n 10 h)
enough (suc m) zero n p q = let h : n < 10 = omega arith in rw (lt-ltb n 10 h)
enough (suc m) (suc k) n p q = rw (enough m k (n / 10) (omega arith) (omega arith))

pub one_digit : (n : ℕ) → n < 10 → decimal n ≡ (48 + n) ∷ []
unfolding decimal decimal_by
one_digit n h = rw (lt-ltb n 10 h)

pub more_digits : (n : ℕ) → 10 ≤ n → decimal n ≡ decimal (n / 10) ++ ((48 + n % 10) ∷ [])
unfolding decimal decimal_by
more_digits zero h = absurd (omega arith)
more_digits (suc n) h = rw (le-ltb (suc n) 10 h, enough n (suc n / 10) (suc n / 10) (omega arith) (omega arith))

-- ---- how many

pub length_more : (n : ℕ) → 10 ≤ n → length (decimal n) ≡ length (decimal (n / 10)) + 1
length_more n h = ap length (more_digits n h) ∙ length-append (decimal (n / 10)) ((48 + n % 10) ∷ [])

pub length_1 : (n : ℕ) → n < 10 → length (decimal n) ≡ 1
length_1 n h = ap length (one_digit n h)

-- at most one more than its tenth has; so a side has at most two, a count at most four
one_more : (n k : ℕ) → length (decimal (n / 10)) ≤ k → length (decimal n) ≤ k + 1
one_more n k h = go (ltb n 10) refl
  where
    go : (b : Bool) → ltb n 10 ≡ b → length (decimal n) ≤ k + 1
    go true e = omega (arith, length_1 n (ltb-true n 10 e))
    go false e = omega (arith, length_more n (ltb-false n 10 e))

pub few_digits : (n : ℕ) → n < 100 → length (decimal n) ≤ 2
few_digits n h = one_more n 1 (omega (arith, length_1 (n / 10) (omega arith)))

pub four_digits : (n : ℕ) → n < 10000 → length (decimal n) ≤ 4
four_digits n h = one_more n 3 (one_more (n / 10) 2 (few_digits (n / 10 / 10) (omega arith)))
