-- The two passes of a start are the definition's one, over any two tests, and it leaves the other places at 0. Assumes nothing.
use Prim.Native.Nat.{ℕ, zero, suc, ◌≤◌, ◌<◌}
use native.Mathlib.Omega.{arith}
use native.Mathlib.Numerals.{add-one}
use mathlib.Core.Path.{◌≡◌, refl, sym, ap, ◌∙◌}
use mathlib.Core.Bool.{Bool, true, false}
use mathlib.Core.List.{List, ◌++◌, append-nil}
use lib.Dec.{eqb}
use lib.ListN.{length, get_or, set, take, drop, drop_of_length-le, get_or-append}
use lib.Seq.{get_or-set_other, length-take-le}
use Rattle.rules.specs.Picture.{tabulate, filled, cleared}
use Rattle.rules.specs.Walk.{State, state, has, class, classed, started}
use Rattle.hysteresis.specs.Split.{mark_of, marked, put, stacked}
use Rattle.rules.proofs.Fill.{length_filled, fill_more, filled_at}

-- the first n entries of a buffer, lent and filled whole
pub first_filled : {A : Type 0} (n : ℕ) (f : ℕ → A) (o : List A) {r : List A} → n ≤ length o → r ≡ filled (length (take n o)) f (take n o) → r ++ drop n o ≡ filled n f o
first_filled n f o h p =
    let e : length (take n o) ≡ n = length-take-le n o h in
    let s : length (take n o) ≤ n = omega arith in
    rw (rw e at p, drop_of_length-le (take n o) s, append-nil)

-- they are still n
pub still_first : {A : Type 0} (n : ℕ) (f : ℕ → A) (o : List A) {r : List A} → n ≤ length o → r ≡ filled (length (take n o)) f (take n o) → length r ≡ n
still_first n f o h p = ap length p ∙ length_filled (length (take n o)) f (take n o) (omega arith) ∙ length-take-le n o h

-- no more are pending than were looked at
put_few : (b : Bool) (i : ℕ) (s : List ℕ × ℕ) → s.1 ≤ i → (put b i s).1 ≤ suc i
unfolding put
put_few true i s h = omega arith
put_few false i s h = omega arith

stacked_few : (hi : ℕ → Bool) (i : ℕ) (stack : List ℕ) → (stacked hi i stack).1 ≤ i
unfolding stacked
stacked_few hi zero stack = omega arith
stacked_few hi (suc i) stack = put_few (hi i) i (stacked hi i stack) (stacked_few hi i stack)

pub few_stacked : (hi : ℕ → Bool) (i : ℕ) (stack : List ℕ) {s : List ℕ} {p : ℕ} → (s, p) ≡ stacked hi i stack → p ≤ i
few_stacked hi i stack e = omega (arith, stacked_few hi i stack, ap (λ (t : List ℕ × ℕ). t.1) e)

-- the same pixels by another test
stacked_same : (f g : ℕ → Bool) (n : ℕ) (stack : List ℕ) → ((i : ℕ) → i < n → f i ≡ g i) → stacked f n stack ≡ stacked g n stack
unfolding stacked
stacked_same f g zero stack h = refl
stacked_same f g (suc n) stack h = rw (stacked_same f g n stack (λ i l. h i (omega arith)), h n (omega arith))

-- a mark 2 is a strong pixel's
strong_only : (a b : Bool) → eqb (mark_of a b) 2 ≡ a
strong_only true b = refl
strong_only false true = refl
strong_only false false = refl

module _ (hi lo : ℕ → Bool) (marks stack : List ℕ) where
  -- the two passes so far are the definition's one
  in_two : (n : ℕ) → n ≤ length marks
      → classed hi lo n (state marks stack 0) ≡ (let s = stacked hi n stack in state (marked hi lo n marks) s.0 s.1)
  unfolding classed class stacked put tabulate
  in_two zero h = refl
  in_two (suc n) h = rw (in_two n (omega arith), ← more) (one (hi n) (stacked hi n stack))
    where
      more : set (marked hi lo n marks) n (mark_of (hi n) (lo n)) ≡ marked hi lo (suc n) marks
      more = rw add-one at (fill_more n (λ i. mark_of (hi i) (lo i)) marks (marked hi lo n marks) _ h refl refl)

      one : (b : Bool) (s : List ℕ × ℕ)
          → class b (lo n) n (state (marked hi lo n marks) s.0 s.1) ≡ state (set (marked hi lo n marks) n (mark_of b (lo n))) (put b n s).0 (put b n s).1
      one true s = refl
      one false s = refl

-- so are the code's, whose second reads the marks of the first
pub both_passes : (hi lo : ℕ → Bool) (marks stack : List ℕ) {n p : ℕ} {m s : List ℕ} → n ≤ length marks → m ≡ marked hi lo n marks
    → (s, p) ≡ stacked (has 2 m) n (cleared n 0 stack) → state m s p ≡ started hi lo n marks stack
unfolding started
both_passes hi lo marks stack {n} {p} {m} {s} h e f =
    let o = cleared n 0 stack in
    let strong : (i : ℕ) → i < n → has 2 m i ≡ hi i = λ i l. ap (λ (k : ℕ). eqb k 2) (filled_at n _ marks m 0 i e l) ∙ strong_only (hi i) (lo i) in
    let t : (s, p) ≡ stacked hi n o = f ∙ stacked_same (has 2 m) hi n o strong in
    rw (in_two hi lo marks o n h, ← t, ← e)

-- and so they are where the first n marks are lent by themselves
pub passes_of_part : (hi lo : ℕ → Bool) (marks stack : List ℕ) {n p : ℕ} {m s : List ℕ} → n ≤ length marks → m ≡ marked hi lo (length (take n marks)) (take n marks)
    → (s, p) ≡ stacked (has 2 m) (length m) (cleared (length m) 0 stack) → state (m ++ drop n marks) s p ≡ started hi lo n marks stack
passes_of_part hi lo marks stack {n} {p} {m} {s} h e f =
    let k : length m ≡ n = still_first n _ marks h e in
    let all = m ++ drop n marks in
    let same : (i : ℕ) → i < n → has 2 m i ≡ has 2 all i = λ i l. ap (λ (x : ℕ). eqb x 2) (sym (get_or-append m (drop n marks) 0 i (omega (arith, k)))) in
    both_passes hi lo marks stack h (first_filled n _ marks h e) (rw k at f ∙ stacked_same (has 2 m) (has 2 all) n (cleared n 0 stack) same)

-- ---- places from the pending count on hold 0 (01.Walk.5)

class_zero : (a b : Bool) (k i : ℕ) (t : State) → (t.pending ≤ i → get_or t.stack i 0 ≡ 0) → (class a b k t).pending ≤ i
    → get_or (class a b k t).stack i 0 ≡ 0
unfolding class
class_zero true b k i t h p = get_or-set_other t.stack t.pending i k 0 (omega arith) ∙ h (omega arith)
class_zero false b k i t h p = h p

classed_zero : (hi lo : ℕ → Bool) (k i : ℕ) (s : State) → get_or s.stack i 0 ≡ 0 → (classed hi lo k s).pending ≤ i → get_or (classed hi lo k s).stack i 0 ≡ 0
unfolding classed
classed_zero hi lo zero i s z p = z
classed_zero hi lo (suc k) i s z p = class_zero (hi k) (lo k) k i (classed hi lo k s) (classed_zero hi lo k i s z) p

pub places_zero : (hi lo : ℕ → Bool) (n : ℕ) (marks stack : List ℕ)
    → let s = started hi lo n marks stack in (i : ℕ) → s.pending ≤ i → i < n → get_or s.stack i 0 ≡ 0
unfolding started
places_zero hi lo n marks stack i p l = classed_zero hi lo n i _ (filled_at n (λ j. 0) stack _ 0 i refl l) p
