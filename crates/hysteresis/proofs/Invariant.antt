-- The walk's invariant, of the first n pixels, and the three stores that keep it: a push, a class and a pop. Assumes nothing.
use Prim.Native.Nat.{ℕ, zero, suc, ◌+◌, ◌-◌, ◌≤◌, ◌<◌, zero-le}
use native.Mathlib.Nat.{le_refl}
use native.Mathlib.Omega.{arith}
use mathlib.Core.Path.{◌≡◌, refl, sym, ap, ◌∙◌}
use mathlib.Core.Logic.{◌⊎◌, inl, inr, ⊎_elim, ◌≢◌}
use mathlib.Core.Bool.{Bool, true, false}
use mathlib.Core.List.{List}
use lib.Dec.{T, eqb}
use lib.ListN.{length, get_or, set, length-set}
use lib.Seq.{get_or-set_same, get_or-set_other}
use borrow.Author.Tests.{eqb-true, ne_eqb}
use Rattle.rules.specs.Picture.{area, bit, tally}
use Rattle.rules.specs.Walk.{State, state, mark, has, count, push, pop, last}
use Rattle.rules.specs.Joined.{Joined}
use Rattle.rules.specs.declared.Size.{Size}
use Rattle.rules.proofs.Tests.{below_suc}
use Rattle.rules.proofs.Stores.{at_set}
use Rattle.rules.proofs.Tallies.{tally_all, tally_eq, count_less, count_more}

-- the index at place i of the stack
abbrev pub held : State → ℕ → ℕ
held s i = get_or s.stack i 0

-- no pixel has two marks
apart_count : (v w : ℕ) (m : List ℕ) → v ≢ w → (n : ℕ) → count v m n + count w m n ≤ n
unfolding tally
apart_count v w m k zero = zero-le
apart_count v w m k (suc n) = go (apart_count v w m k n) (has v m n) (has w m n) refl refl
  where
    go : count v m n + count w m n ≤ n → (a b : Bool) → has v m n ≡ a → has w m n ≡ b → count v m n + bit a + (count w m n + bit b) ≤ suc n
    go ih true true p q = absurd (k (sym (eqb-true _ _ p) ∙ eqb-true _ _ q))
    go ih true false p q = omega arith
    go ih false true p q = omega arith
    go ih false false p q = omega arith

-- the count with the mark of one pixel more, which gets a
pub counted : (v : ℕ) (m : List ℕ) (i a : ℕ) → i < length m → count v (set m i a) (suc i) ≡ count v m i + bit (eqb a v)
unfolding tally
counted v m i a l =
    let e : count v (set m i a) i ≡ count v m i = tally_eq _ _ i (λ q k. ap (λ (x : ℕ). eqb x v) (get_or-set_other m i q a 0 (omega arith))) in
    let f : bit (has v (set m i a) i) ≡ bit (eqb a v) = ap (λ (x : ℕ). bit (eqb x v)) (get_or-set_same m i a 0 l) in
    omega arith

module _ (d : Size) (hi lo : ℕ → Bool) where
  -- the mark m is right for pixel q
  pub record Right (q m : ℕ) : Type 0 where
    pub small : m ≤ 3
    pub seen : 2 ≤ m → Joined d hi lo q
    pub weak : m ≡ 1 → T (lo q)
    pub low : T (lo q) → 1 ≤ m
    pub high : T (hi q) → 2 ≤ m

  -- the marks of the first n pixels are right, and the stack lists those with mark 2, each once
  pub record Core (n : ℕ) (s : State) : Type 0 where
    pub marks_long : area d ≤ length s.marks
    pub stack_long : area d ≤ length s.stack
    pub inside : (i : ℕ) → i < s.pending → held s i < n
    pub two : (i : ℕ) → i < s.pending → mark s (held s i) ≡ 2
    pub once : (i j : ℕ) → i < s.pending → j < s.pending → held s i ≡ held s j → i ≡ j
    pub twos : s.pending ≡ count 2 s.marks n
    pub right : (q : ℕ) → q < n → Right q (mark s q)

module _ {d : Size} {hi lo : ℕ → Bool} where
  right_joined : {q m : ℕ} → 2 ≤ m → m ≤ 3 → Joined d hi lo q → Right d hi lo q m
  right_joined l u j = record { small = u; seen = λ z. j; weak = λ e. absurd (omega arith); low = λ z. omega arith; high = λ z. l }

  -- pixel r gets a mark that is right for it
  right_set : (m : List ℕ) (r a q : ℕ) → r < length m → Right d hi lo r a → (q ≢ r → Right d hi lo q (get_or m q 0)) → Right d hi lo q (get_or (set m r a) q 0)
  right_set m r a q l c h = ⊎_elim (λ e. rw (e.1, e.0) c) (λ e. rw e.1 (h e.0)) (at_set m r a 0 q l)

  -- room on the stack for each weak pixel
  pub room : {n : ℕ} {s : State} → Core d hi lo n s → s.pending + count 1 s.marks n ≤ n
  room {n} {s} h = omega (arith, h.twos, apart_count 2 1 s.marks (omega arith) n)

  -- ---- a push of pixel r, after which the marks of the first m pixels are right

  module _ {n m : ℕ} {s : State} (h : Core d hi lo n s) (r : ℕ) (l : r < area d) (new : r < m) (old : (q : ℕ) → q < m → q ≢ r → q < n) (grows : n ≤ m)
      (apart : (i : ℕ) → i < s.pending → held s i ≢ r) (free : s.pending < area d)
      (more : count 2 (set s.marks r 2) m ≡ suc (count 2 s.marks n)) (j : Joined d hi lo r) where
    mark_in : r < length s.marks
    mark_in = omega (arith, h.marks_long)

    -- a place of the new stack: the new one, or an old one
    which : (i : ℕ) → i < s.pending + 1 → ((i ≡ s.pending) × (held (push r s) i ≡ r)) ⊎ ((i < s.pending) × (held (push r s) i ≡ held s i))
    which i k =
        ⊎_elim (λ e. inl (e, rw e (get_or-set_same s.stack s.pending r 0 (omega (arith, h.stack_long)))))
        (λ e. inr (e, get_or-set_other s.stack s.pending i r 0 (omega arith))) (below_suc {n = s.pending} (omega arith))

    put : Core d hi lo m (push r s)
    put = record {
      marks_long = omega (arith, h.marks_long, length-set s.marks r 2);
      stack_long = omega (arith, h.stack_long, length-set s.stack s.pending r);
      inside = λ i k. ⊎_elim (λ e. omega arith) (λ e. omega (arith, h.inside i e.0)) (which i k);
      two = λ i k.
          ⊎_elim (λ e. rw e.1 (get_or-set_same s.marks r 2 0 mark_in))
          (λ e. rw e.1 (get_or-set_other s.marks r (held s i) 2 0 (apart i e.0) ∙ h.two i e.0)) (which i k);
      once = λ i k a b e.
          ⊎_elim (λ x. ⊎_elim (λ y. omega arith) (λ y. let z = apart k y.0 in omega arith) (which k b))
          (λ x. ⊎_elim (λ y. let z = apart i x.0 in omega arith) (λ y. h.once i k x.0 y.0 (omega arith)) (which k b)) (which i a);
      twos = omega (arith, h.twos, more);
      right = λ q k. right_set s.marks r 2 q mark_in (right_joined (le_refl 2) (omega arith) j) (λ z. h.right q (old q k z));
    }

  -- of a weak pixel
  pub core_push : {s : State} → Core d hi lo (area d) s → (r : ℕ) → r < area d → mark s r ≡ 1 → Joined d hi lo r → Core d hi lo (area d) (push r s)
  core_push {s} h r l e j =
      put h r l l (λ q k z. k) (le_refl _) (λ i k z. let a = ap (mark s) z in let b = h.two i k in omega arith)
      (omega (arith, room h, count_less s.marks (area d) r 2 1 h.marks_long l e (omega arith)))
      (count_more s.marks (area d) r 2 2 h.marks_long l (omega arith) refl) j

  -- ---- pixel i is classed: strong, or not

  module _ {i : ℕ} {s : State} (h : Core d hi lo i s) (l : i < area d) where
    in_marks : i < length s.marks
    in_marks = omega (arith, h.marks_long)

    pub core_strong : Joined d hi lo i → Core d hi lo (suc i) (push i s)
    core_strong j =
        put h i l (le_refl _) (λ q k z. omega arith) (omega arith) (λ k p z. let a = h.inside k p in omega arith)
        (omega (arith, h.twos, tally_all (has 2 s.marks) i)) (omega (arith, counted 2 s.marks i 2 in_marks)) j

    pub core_weak : (a : ℕ) → a ≢ 2 → Right d hi lo i a → Core d hi lo (suc i) (state (set s.marks i a) s.stack s.pending)
    core_weak a k c = record {
      marks_long = omega (arith, h.marks_long, length-set s.marks i a);
      stack_long = h.stack_long;
      inside = λ j p. omega (arith, h.inside j p);
      two = λ j p. get_or-set_other s.marks i (held s j) a 0 (λ z. let x = h.inside j p in omega arith) ∙ h.two j p;
      once = h.once;
      twos = omega (arith, h.twos, counted 2 s.marks i a in_marks, ap bit (ne_eqb a 2 k));
      right = λ q p. right_set s.marks i a q in_marks c (λ z. h.right q (omega arith));
    }

  -- ---- a pop

  module _ {s : State} (h : Core d hi lo (area d) s) (p : 0 < s.pending) where
    l : s.pending - 1 < s.pending
    l = omega arith

    pub last_in : last s < area d
    last_in = h.inside (s.pending - 1) l

    pub last_two : mark s (last s) ≡ 2
    last_two = h.two (s.pending - 1) l

    pub last_joined : Joined d hi lo (last s)
    last_joined = (h.right (last s) last_in).seen (omega (arith, last_two))

    marked : last s < length s.marks
    marked = omega (arith, h.marks_long, last_in)

    pub popped : (q : ℕ) → ((q ≡ last s) × (mark (pop s) q ≡ 3)) ⊎ ((q ≢ last s) × (mark (pop s) q ≡ mark s q))
    unfolding pop
    popped q = at_set s.marks (last s) 3 0 q marked

    stays : (i : ℕ) → i < s.pending - 1 → held (pop s) i ≡ held s i
    unfolding pop
    stays i k = get_or-set_other s.stack (s.pending - 1) i 0 0 (omega arith)

    pub core_pop : Core d hi lo (area d) (pop s)
    unfolding pop
    core_pop = record {
      marks_long = omega (arith, h.marks_long, length-set s.marks (last s) 3);
      stack_long = omega (arith, h.stack_long, length-set s.stack (s.pending - 1) 0);
      inside = λ i k. omega (arith, h.inside i (omega arith), stays i k);
      two = λ i k.
          rw (stays i k)
          (get_or-set_other s.marks (last s) (held s i) 3 0 (λ e. let a = h.once i (s.pending - 1) (omega arith) l e in omega arith)
          ∙ h.two i (omega arith));
      once = λ i j a b e. h.once i j (omega arith) (omega arith) (omega (arith, stays i a, stays j b));
      twos = omega (arith, h.twos, count_less s.marks (area d) (last s) 3 2 h.marks_long last_in last_two (omega arith));
      right = λ q k. right_set s.marks (last s) 3 q marked (right_joined (omega arith) (le_refl 3) last_joined) (λ z. h.right q k);
    }

    -- one more is finished
    pub pop_more : count 3 (pop s).marks (area d) ≡ suc (count 3 s.marks (area d))
    unfolding pop
    pop_more = count_more s.marks (area d) (last s) 3 3 h.marks_long last_in (λ e. let t = last_two in omega arith) refl
