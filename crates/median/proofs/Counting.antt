-- Counts of byte values: what they hold after a column goes in or out, how many lie below a value, and the window's counts by its
-- columns. Assumes nothing.
use mathlib.Core.Path.{◌≡◌, refl, sym, ap, ap₂, ◌∙◌}
use mathlib.Core.Bool.{Bool, true, false, cond}
use mathlib.Core.Logic.{⊎_elim, ◌≢◌}
use mathlib.Core.List.{List, [], ◌∷◌, ◌++◌}
use Prim.Native.Nat.{ℕ, zero, suc, ◌+◌, ◌-◌, ◌*◌, ◌/◌, ◌%◌, ◌<◌, ◌≤◌}
use native.Mathlib.Nat.{add-suc, add-zero, zero-mul, suc-mul}
use native.Mathlib.Numerals.{add-one}
use native.Mathlib.Omega.{arith}
use borrow.Author.Tests.{eq-eqb, ne_eqb, eqb-true}
use lib.Dec.{ltb, eqb}
use mir.Val.{bool_byte}
use lib.ListN.{length, get_or, set, length-set}
use Rattle.rules.specs.Picture.{bit, tally, tabulate}
use Rattle.rules.specs.Median.{occurrences}
use Rattle.rules.proofs.Grid.{column_of_lem, row_of_lem}
use Rattle.rules.proofs.Stores.{at_set}
use Rattle.rules.proofs.Tallies.{tally_all, tally_eq}
use Rattle.rules.proofs.Sorting.{fewer, fewer_none, fewer_more}
use Rattle.median.specs.Counts.{sum_of, equals, belows, counted_below, change_all, put_all, take_all, Middle}

-- ---- sums

pub sum_cong : (g h : ℕ → ℕ) (n : ℕ) → ((v : ℕ) → v < n → g v ≡ h v) → sum_of g n ≡ sum_of h n
unfolding sum_of
sum_cong g h zero e = refl
sum_cong g h (suc n) e = omega (arith, sum_cong g h n (λ v l. e v (omega arith)), e n (omega arith))

sum_both : (g h : ℕ → ℕ) (n : ℕ) → sum_of (λ v. g v + h v) n ≡ sum_of g n + sum_of h n
unfolding sum_of
sum_both g h zero = refl
sum_both g h (suc n) = omega (arith, sum_both g h n)

sum_zero : (n : ℕ) → sum_of (λ v. 0) n ≡ 0
unfolding sum_of
sum_zero zero = refl
sum_zero (suc n) = omega (arith, sum_zero n)

pub sum_more : (g : ℕ → ℕ) (n : ℕ) → sum_of g (n + 1) ≡ sum_of g n + g n
unfolding sum_of
sum_more g n = rw add-one

-- the first term apart
pub sum_first : (g : ℕ → ℕ) (n : ℕ) → sum_of g (n + 1) ≡ g 0 + sum_of (λ i. g (i + 1)) n
unfolding sum_of
sum_first g zero = omega arith
sum_first g (suc n) = rw (add-one (suc n)) (omega (arith, rw (add-one n) at (sum_first g n), ap g (add-one n)))

-- ---- tallies

tally_add : (p : ℕ → Bool) (a n : ℕ) → tally p (a + n) ≡ tally p a + tally (λ i. p (a + i)) n
unfolding tally
tally_add p a zero = rw (add-zero a) (omega arith)
tally_add p a (suc n) = rw (add-suc a n) (omega (arith, tally_add p a n))

pub tally_longer : (p : ℕ → Bool) (n k : ℕ) → n ≤ k → tally p n ≤ tally p k
tally_longer p n k h = let e : n + (k - n) ≡ k = omega arith in omega (arith, rw e at (tally_add p n (k - n)))

tally_sum : (p : ℕ → Bool) (n : ℕ) → tally p n ≡ sum_of (λ i. bit (p i)) n
unfolding tally sum_of
tally_sum p zero = refl
tally_sum p (suc n) = omega (arith, tally_sum p n)

-- ---- how many are v, summed over v

at_most_one : (b n : ℕ) → sum_of (λ v. bit (eqb b v)) n ≡ bit (ltb b n)
unfolding sum_of fewer occurrences
at_most_one b zero = omega (arith, fewer_none (b ∷ []))
at_most_one b (suc n) = omega (arith, at_most_one b n, rw (add-one n) at (fewer_more n (b ∷ [])))

pub sum_equals : (f : ℕ → ℕ) (n m : ℕ) → sum_of (equals f n) m ≡ belows f n m
unfolding tally
sum_equals f zero m = sum_zero m
sum_equals f (suc n) m = omega (arith, sum_both (equals f n) (λ v. bit (eqb (f n) v)) m, sum_equals f n m, at_most_one (f n) m)

-- ---- a column in or out

-- any count after a store at b
store_at : (l : List ℕ) (b a v : ℕ) → b < length l → get_or (set l b a) v 0 ≡ cond (eqb b v) a (get_or l v 0)
store_at l b a v h =
    ⊎_elim (λ (p : (v ≡ b) × (get_or (set l b a) v 0 ≡ a)). rw (eq-eqb b v (sym p.0)) p.1)
    (λ (p : (v ≢ b) × (get_or (set l b a) v 0 ≡ get_or l v 0)). rw (ne_eqb b v (λ e. p.0 (sym e))) p.1)
    (at_set l b a 0 v h)

module _ (f : ℕ → ℕ) (l : List ℕ) where
  pub change_length : (g : ℕ → ℕ) (n : ℕ) → length (change_all g l f n) ≡ length l
  unfolding change_all
  change_length g zero = refl
  change_length g (suc n) = simp length-set (change_length g n)

  module _ (small : (j : ℕ) → f j < length l) where
    -- a count that is changed k times is h of itself and k
    change_at : (g : ℕ → ℕ) (h : ℕ → ℕ → ℕ) → ((a : ℕ) → a ≡ h a 0) → ((a k : ℕ) → g (h a k) ≡ h a (k + 1))
        → (n v : ℕ) → get_or (change_all g l f n) v 0 ≡ h (get_or l v 0) (equals f n v)
    unfolding change_all tally
    change_at g h none more zero v = none (get_or l v 0)
    change_at g h none more (suc n) v =
        store_at (change_all g l f n) (f n) _ v (rw (change_length g n) (small n)) ∙ go (change_at g h none more n v) (eqb (f n) v) refl
      where
        go : get_or (change_all g l f n) v 0 ≡ h (get_or l v 0) (equals f n v) → (t : Bool) → eqb (f n) v ≡ t
            → cond t (g (get_or (change_all g l f n) (f n) 0)) (get_or (change_all g l f n) v 0) ≡ h (get_or l v 0) (equals f n v + bit t)
        go e true q = rw (eqb-true (f n) v q, e) (more (get_or l v 0) (equals f n v))
        go e false q = rw (e, add-zero)

    pub put_at : (n v : ℕ) → get_or (put_all l f n) v 0 ≡ get_or l v 0 + equals f n v
    put_at = change_at (λ c. c + 1) (λ a k. a + k) (λ a. omega arith) (λ a k. omega arith)

    pub take_at : (n v : ℕ) → get_or (take_all l f n) v 0 ≡ get_or l v 0 - equals f n v
    take_at = change_at (λ c. c - 1) (λ a k. a - k) (λ a. omega arith) (λ a k. omega arith)

    -- and how many lie below a value
    pub put_below : (n m : ℕ) → counted_below (put_all l f n) m ≡ counted_below l m + belows f n m
    put_below n m = sum_cong _ _ m (λ v h. put_at n v) ∙ omega (arith, sum_both (λ v. get_or l v 0) (equals f n) m, sum_equals f n m)

    pub take_below : (n m : ℕ) → ((v : ℕ) → equals f n v ≤ get_or l v 0) → counted_below (take_all l f n) m + belows f n m ≡ counted_below l m
    take_below n m h =
        let out : ℕ → ℕ = λ v. get_or (take_all l f n) v 0 in
        let s = sum_cong (λ v. out v + equals f n v) (λ v. get_or l v 0) m (λ v k. omega (arith, take_at n v, h v)) in
        omega (arith, sum_equals f n m, sum_both out (equals f n) m)

    -- counts stay small
    pub put_small : (n v most : ℕ) → get_or l v 0 ≤ most → get_or (put_all l f n) v 0 ≤ most + n
    put_small n v most h = omega (arith, put_at n v, tally_all (λ j. eqb (f j) v) n)

-- THE INVARIANT of a loop over the m entries of a column, before entry j
pub record Changing (g f : ℕ → ℕ) (m j : ℕ) (o l : List ℕ) : Type 0 where
  pub within : j ≤ m
  pub same : length l ≡ length o
  pub is : l ≡ change_all g o f j

pub changing_start : {g f : ℕ → ℕ} {m : ℕ} {o : List ℕ} → Changing g f m 0 o o
unfolding change_all
changing_start = record { within = omega arith; same = refl; is = refl }

pub changing_more : {g f : ℕ → ℕ} {m j b : ℕ} {o l : List ℕ} → j < m → Changing g f m j o l → b ≡ f j → Changing g f m (j + 1) o (set l b (g (get_or l b 0)))
unfolding change_all
changing_more {g} {j = j} {b} {l = l} h p q = record { within = omega arith; same = length-set l b (g (get_or l b 0)) ∙ p.same; is = rw (add-one j, p.is, q) }

pub changing_all : {g f : ℕ → ℕ} {m j : ℕ} {o l : List ℕ} → Changing g f m j o l → m ≤ j → j ≡ m
changing_all p h = omega (arith, p.within)

-- a test as the code counts it
bit_is : (t : Bool) → bool_byte t ≡ bit t
bit_is true = refl
bit_is false = refl

module _ (f : ℕ → ℕ) {j b : ℕ} (q : b ≡ f j) where
  pub belows_more : (value : ℕ) → belows f (j + 1) value ≡ belows f j value + bool_byte (ltb b value)
  unfolding tally
  belows_more value = rw (add-one j, q, bit_is (ltb (f j) value))

  equals_next : equals f (j + 1) b ≡ equals f j b + 1
  unfolding tally
  equals_next = rw (add-one j, eq-eqb (f j) b (sym q))

-- what goes out is there
pub take_some : {f : ℕ → ℕ} {m j b : ℕ} {o l : List ℕ} → ((j : ℕ) → f j < length o) → Changing (λ c. c - 1) f m j o l → b ≡ f j → j < m
    → equals f m b ≤ get_or o b 0 → 1 ≤ get_or l b 0
take_some {f} {m} {j} {b} {o} s p q k h =
    let n = tally_longer (λ i. eqb (f i) b) (j + 1) m (omega arith) in
    rw p.is (omega (arith, take_at f o s j b, equals_next f q))

-- ---- the window by its columns

-- column i has p i 0, .., p i (h - 1); in row order they are p (j % k) (j / k)
pub by_columns : (p : ℕ → ℕ → Bool) (k h : ℕ) → 0 < k → tally (λ j. p (j % k) (j / k)) (h * k) ≡ sum_of (λ i. tally (p i) h) k
unfolding tally
by_columns p k zero s = rw (zero-mul k) (sym (sum_zero k))
by_columns p k (suc h) s =
    rw (suc-mul h k, tally_add (λ j. p (j % k) (j / k)) (h * k) k)
    (omega (
      arith,
      by_columns p k h s,
      tally_eq (λ i. p ((h * k + i) % k) ((h * k + i) / k)) (λ i. p i h) k (λ i l. ap₂ p (column_of_lem h l) (row_of_lem h l)),
      tally_sum (λ i. p i h) k,
      sum_both (λ i. tally (p i) h) (λ i. bit (p i h)) k,
    ))

occurrences_end : (l : List ℕ) (a v : ℕ) → occurrences v (l ++ (a ∷ [])) ≡ occurrences v l + bit (eqb a v)
unfolding occurrences
occurrences_end [] a v = omega arith
occurrences_end (b ∷ l) a v = omega (arith, occurrences_end l a v)

-- how often v stands in a tabulated list
pub occurrences_tabulate : (n : ℕ) (f : ℕ → ℕ) (v : ℕ) → occurrences v (tabulate n f) ≡ equals f n v
unfolding tabulate tally occurrences
occurrences_tabulate zero f v = refl
occurrences_tabulate (suc n) f v = omega (arith, occurrences_end (tabulate n f) (f n) v, occurrences_tabulate n f v)

-- the sum of the counts below m is how many entries are
pub below_is : (l counts : List ℕ) (m : ℕ) → ((v : ℕ) → v < m → get_or counts v 0 ≡ occurrences v l) → counted_below counts m ≡ fewer m l
unfolding sum_of
below_is l counts zero h = sym (fewer_none l)
below_is l counts (suc m) h = omega (arith, below_is l counts m (λ v k. h v (omega arith)), h m (omega arith), rw (add-one m) at (fewer_more m l))

-- ---- one value down or up

module _ {counts : List ℕ} {v n item : ℕ} (m : Middle counts v n) where
  -- more than none are below v
  some_below : item < n → 0 < v
  unfolding sum_of
  some_below h = go v m.lower
    where
      go : (v : ℕ) → n ≡ counted_below counts v → 0 < v
      go zero q = absurd (omega arith)
      go (suc v) q = omega arith

  pub one_down : item < n → (0 < v) × (n ≡ counted_below counts (v - 1) + get_or counts (v - 1) 0)
  one_down h =
      let p = some_below h in
      let z : v - 1 + 1 ≡ v = omega arith in
      (p, m.lower ∙ (rw z at (sum_more (λ u. get_or counts u 0) (v - 1))))

  -- the last value has enough below it and at it
  pub one_up : item < counted_below counts 256 → n + get_or counts v 0 ≤ item → Middle counts (v + 1) (n + get_or counts v 0)
  one_up h k = record { byte = below (λ z. omega (arith, h, rw z at up)); lower = up }
    where
      up : n + get_or counts v 0 ≡ counted_below counts (v + 1)
      up = omega (arith, m.lower, sum_more (λ u. get_or counts u 0) v)

      below : (v + 1 ≡ 256 → ⊥) → v + 1 < 256
      below f = omega (arith, m.byte)
