-- The sorted list: `sorted` is one, it is the only one, and counting finds its items without sorting. Assumes nothing.
use mathlib.Core.Path.{◌≡◌, refl, sym, ◌∙◌}
use mathlib.Core.Bool.{Bool, true, false, cond}
use mathlib.Core.List.{List, [], ◌∷◌}
use Prim.Native.Nat.{ℕ, zero, suc, ◌+◌, ◌<◌, ◌≤◌}
use native.Mathlib.Numerals.{add-one}
use native.Mathlib.Omega.{arith}
use lib.Dec.{leb, ltb, eqb}
use lib.ListN.{length, get_or}
use lib.Seq.{ext_get_or}
use borrow.Author.Tests.{leb-true, leb-false, ltb-true, ltb-false, eqb-true, eqb-false, lt-ltb, le-ltb}
use Rattle.rules.specs.Picture.{bit}
use Rattle.rules.specs.Median.{occurrences, SortOf, insert, sorted}

-- ---- how many entries are below v

unfoldable pub fewer : ℕ → List ℕ → ℕ
fewer v [] = 0
fewer v (a ∷ l) = bit (ltb a v) + fewer v l

pub fewer_none : (l : List ℕ) → fewer 0 l ≡ 0
unfolding fewer
fewer_none [] = refl
fewer_none (a ∷ l) = let h : 0 ≤ a = omega arith in rw (le-ltb a 0 h) (omega (arith, fewer_none l))

-- those below v + 1 are those below v, and those that are v
pub fewer_more : (v : ℕ) (l : List ℕ) → fewer (v + 1) l ≡ fewer v l + occurrences v l
unfolding fewer occurrences
fewer_more v [] = refl
fewer_more v (a ∷ l) = let h = one (ltb a v) (eqb a v) (ltb a (v + 1)) refl refl refl in omega (arith, fewer_more v l)
  where
    one : (b e c : Bool) → ltb a v ≡ b → eqb a v ≡ e → ltb a (v + 1) ≡ c → bit c ≡ bit b + bit e
    one true true c p q r = let x = ltb-true a v p in let y = eqb-true a v q in absurd (omega arith)
    one true false true p q r = refl
    one true false false p q r = let x = ltb-true a v p in let y = ltb-false a (v + 1) r in absurd (omega arith)
    one false true true p q r = refl
    one false true false p q r = let x = eqb-true a v q in let y = ltb-false a (v + 1) r in absurd (omega arith)
    one false false true p q r = let x = ltb-false a v p in let y = eqb-false a v q in let z = ltb-true a (v + 1) r in absurd (omega arith)
    one false false false p q r = refl

-- so equal occurrences give equal counts
fewer_same : (s l : List ℕ) → ((v : ℕ) → occurrences v s ≡ occurrences v l) → (v : ℕ) → fewer v s ≡ fewer v l
fewer_same s l h zero = fewer_none s ∙ sym (fewer_none l)
fewer_same s l h (suc v) =
    let p : fewer (v + 1) s ≡ fewer (v + 1) l = omega (arith, fewer_more v s, fewer_more v l, h v, fewer_same s l h v) in
    rw add-one at p

fewer_most : (v : ℕ) (l : List ℕ) → fewer v l ≤ length l
unfolding fewer
fewer_most v [] = omega arith
fewer_most v (a ∷ l) = go (ltb a v) (fewer_most v l)
  where
    go : (b : Bool) → fewer v l ≤ length l → bit b + fewer v l ≤ suc (length l)
    go true h = omega arith
    go false h = omega arith

-- and every entry is below a large v
total : List ℕ → ℕ
total [] = 0
total (a ∷ l) = a + total l

fewer_all : (v : ℕ) (l : List ℕ) → total l < v → fewer v l ≡ length l
unfolding fewer total
fewer_all v [] h = refl
fewer_all v (a ∷ l) h =
    let p : a < v = omega arith in
    let q : total l < v = omega arith in
    rw (lt-ltb a v p) (omega (arith, fewer_all v l q))

same_length : (s l : List ℕ) → ((v : ℕ) → occurrences v s ≡ occurrences v l) → length s ≡ length l
same_length s l h =
    let v = total s + total l + 1 in
    omega (arith, fewer_all v s (omega arith), fewer_all v l (omega arith), fewer_same s l h v)

-- ---- a list in order

abbrev Ordered : List ℕ → Type 0
Ordered s = (i j : ℕ) → i ≤ j → j < length s → get_or s i 0 ≤ get_or s j 0

tail : (a : ℕ) (s : List ℕ) → Ordered (a ∷ s) → Ordered s
tail a s h i j p q = h (suc i) (suc j) (omega arith) (omega arith)

-- item k is below v: so are those before it
early : (s : List ℕ) (v k : ℕ) → Ordered s → k < length s → get_or s k 0 < v → k < fewer v s
unfolding fewer
early [] v k h l p = absurd (omega arith)
early (a ∷ s) v zero h l p = rw (lt-ltb a v p) (omega arith)
early (a ∷ s) v (suc k) h l p =
    let f = h 0 (suc k) (omega arith) l in
    let q : a < v = omega arith in
    rw (lt-ltb a v q) (omega (arith, early s v k (tail a s h) (omega arith) p))

-- item k is not: no more than k are
late : (s : List ℕ) (v k : ℕ) → Ordered s → k < length s → v ≤ get_or s k 0 → fewer v s ≤ k
unfolding fewer
late [] v k h l p = absurd (omega arith)
late (a ∷ []) v zero h l p = rw (le-ltb a v p) (omega arith)
late (a ∷ b ∷ s) v zero h l p =
    let f : a ≤ b = h 0 1 (omega arith) (omega arith) in
    rw (le-ltb a v p) (omega (arith, late (b ∷ s) v zero (tail a (b ∷ s) h) (omega arith) (omega arith)))
late (a ∷ s) v (suc k) h l p = omega (arith, late s v k (tail a s h) (omega arith) p, one (ltb a v))
  where
    one : (b : Bool) → bit b ≤ 1
    one true = omega arith
    one false = omega arith

-- the item that counting finds
found : (s : List ℕ) (v k : ℕ) → Ordered s → k < length s → fewer v s ≤ k → k < fewer (v + 1) s → get_or s k 0 ≡ v
found s v k h l p q = go (ltb (get_or s k 0) v) (ltb v (get_or s k 0)) refl refl
  where
    go : (a b : Bool) → ltb (get_or s k 0) v ≡ a → ltb v (get_or s k 0) ≡ b → get_or s k 0 ≡ v
    go true b e f = absurd (omega (arith, early s v k h l (ltb-true (get_or s k 0) v e)))
    go false true e f =
        let g = ltb-true v (get_or s k 0) f in
        absurd (omega (arith, late s (v + 1) k h l (omega arith)))
    go false false e f = omega (arith, ltb-false (get_or s k 0) v e, ltb-false v (get_or s k 0) f)

-- ---- `sorted`

insert_same : (v a : ℕ) (l : List ℕ) → occurrences v (insert a l) ≡ bit (eqb a v) + occurrences v l
unfolding insert occurrences
insert_same v a [] = refl
insert_same v a (b ∷ l) = go (leb a b) (insert_same v a l)
  where
    go : (t : Bool) → occurrences v (insert a l) ≡ bit (eqb a v) + occurrences v l
        → occurrences v (cond t (a ∷ b ∷ l) (b ∷ insert a l)) ≡ bit (eqb a v) + (bit (eqb b v) + occurrences v l)
    go true ih = refl
    go false ih = omega arith

sorted_same : (v : ℕ) (l : List ℕ) → occurrences v (sorted l) ≡ occurrences v l
unfolding sorted occurrences
sorted_same v [] = refl
sorted_same v (a ∷ l) = insert_same v a (sorted l) ∙ omega (arith, sorted_same v l)

-- in order, by neighbours: at most each later item
abbrev Least : ℕ → List ℕ → Type 0
Least a s = (j : ℕ) → j < length s → a ≤ get_or s j 0

put : (a : ℕ) (s : List ℕ) → Least a s → Ordered s → Ordered (a ∷ s)
put a s p h zero zero f g = omega arith
put a s p h zero (suc j) f g = p j (omega arith)
put a s p h (suc i) zero f g = absurd (omega arith)
put a s p h (suc i) (suc j) f g = h i j (omega arith) (omega arith)

first_least : (b : ℕ) (l : List ℕ) → Ordered (b ∷ l) → Least b l
first_least b l h j g = h 0 (suc j) (omega arith) (omega arith)

insert_least : (c a : ℕ) (l : List ℕ) → c ≤ a → Least c l → Least c (insert a l)
unfolding insert
insert_least c a [] p q = λ j g. alone j g
  where
    alone : Least c (a ∷ [])
    alone zero g = p
    alone (suc j) g = absurd (omega arith)
insert_least c a (b ∷ l) p q = go (leb a b) (insert_least c a l p (λ i k. q (suc i) (omega arith)))
  where
    go : (t : Bool) → Least c (insert a l) → Least c (cond t (a ∷ b ∷ l) (b ∷ insert a l))
    go true ih zero g = p
    go true ih (suc j) g = q j (omega arith)
    go false ih zero g = q 0 (omega arith)
    go false ih (suc j) g = ih j (omega arith)

insert_ordered : (a : ℕ) (l : List ℕ) → Ordered l → Ordered (insert a l)
unfolding insert
insert_ordered a [] h = put a [] (λ j g. absurd (omega arith)) h
insert_ordered a (b ∷ l) h = go (leb a b) refl (insert_ordered a l (tail b l h))
  where
    go : (t : Bool) → leb a b ≡ t → Ordered (insert a l) → Ordered (cond t (a ∷ b ∷ l) (b ∷ insert a l))
    go true e ih =
        let p = leb-true a b e in
        put a (b ∷ l) (λ j g. let q = h 0 j (omega arith) g in omega arith) h
    go false e ih =
        let p = leb-false a b e in
        put b (insert a l) (insert_least b a l (omega arith) (first_least b l h)) ih

sorted_ordered : (l : List ℕ) → Ordered (sorted l)
unfolding sorted
sorted_ordered [] = λ i j p q. absurd (omega arith)
sorted_ordered (a ∷ l) = insert_ordered a (sorted l) (sorted_ordered l)

-- ---- what callers use

-- the definition computes what the property says
pub sorted_is : (l : List ℕ) → SortOf l (sorted l)
sorted_is l = record { ordered = sorted_ordered l; same = λ v. sorted_same v l }

length_sorted : (l : List ℕ) → length (sorted l) ≡ length l
length_sorted l = same_length (sorted l) l (λ v. sorted_same v l)

-- item k, by counts: at most k entries are below v, and more than k are at most v
pub selected : (l : List ℕ) (v k : ℕ) → fewer v l ≤ k → k < fewer (v + 1) l → get_or (sorted l) k 0 ≡ v
selected l v k p q =
    let f = fewer_same (sorted l) l (λ v. sorted_same v l) in
    found (sorted l) v k (sorted_ordered l) (omega (arith, length_sorted l, fewer_most (v + 1) l)) (omega (arith, f v)) (omega (arith, f (v + 1)))

-- there is no other sorted list
pub sort_unique : (l s : List ℕ) → SortOf l s → s ≡ sorted l
sort_unique l s h = ext_get_or 0 s (sorted l) (same_length s l h.same ∙ sym (length_sorted l)) item
  where
    item : (k : ℕ) → k < length s → get_or s k 0 ≡ get_or (sorted l) k 0
    item k g =
        let v = get_or s k 0 in
        let f = fewer_same s l h.same in
        let low = late s v k h.ordered g (omega arith) in
        let high = early s (v + 1) k h.ordered g (omega arith) in
        sym (selected l v k (omega (arith, f v)) (omega (arith, f (v + 1))))
