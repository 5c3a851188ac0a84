-- A whole take keeps the invariant and finishes one pixel more; the classes of a start reach it. Assumes nothing.
use Prim.Native.Nat.{ℕ, zero, suc, ◌≤◌, ◌<◌, zero-le}
use native.Mathlib.Nat.{le_refl}
use native.Mathlib.Omega.{arith}
use mathlib.Core.Path.{◌≡◌, refl, sym, ap, ◌∙◌, subst}
use mathlib.Core.Logic.{◌⊎◌, ⊎_elim, ◌≢◌}
use mathlib.Core.Bool.{Bool, true, false, cond}
use mathlib.Core.List.{List}
use lib.Dec.{T}
use lib.ListN.{length, set}
use lib.Seq.{get_or-set_same}
use borrow.Author.Tests.{eqb-false, ne_eqb}
use Rattle.rules.specs.Picture.{area, bit, tally, cleared}
use Rattle.rules.specs.Walk.{State, state, mark, has, count, push, pop, last, look, looks, taken, class, classed, started, place}
use Rattle.rules.specs.Joined.{Joined, Touch}
use Rattle.rules.specs.Joined.Way.{here, on}
use Rattle.rules.specs.declared.Size.{Size}
use Rattle.rules.proofs.Bools.{is_true}
use Rattle.rules.proofs.Fill.{length_filled}
use Rattle.rules.proofs.Stores.{at_set}
use Rattle.rules.proofs.Tests.{below_suc}
use Rattle.rules.proofs.Tallies.{count_same, tally_zero}
use Rattle.hysteresis.proofs.Places.{Within, col_at, row_at, place_in_lem, touch_place, nth}
use Rattle.hysteresis.proofs.Visits.{visit_in, visit_keeps, looks_keep}
use Rattle.hysteresis.proofs.Invariant.{Core, counted, core_push, core_strong, core_weak, core_pop, pop_more, popped, last_in, last_joined}

module _ (d : Size) (hi lo : ℕ → Bool) where
  -- between takes: each neighbour of a finished pixel that is at or above low is pending or finished
  pub record Inv (s : State) : Type 0 where
    pub core : Core d hi lo (area d) s
    pub closed : (q r : ℕ) → Touch d q r → mark s q ≡ 3 → T (lo r) → 2 ≤ mark s r

  -- ---- what looks change: marks rise, and none becomes 3

  record Kept (s t : State) : Type 0 where
    core : Core d hi lo (area d) t
    up : (q : ℕ) → q < area d → mark s q ≤ mark t q
    three : (q : ℕ) → q < area d → mark t q ≡ 3 → mark s q ≡ 3
    finished : count 3 t.marks (area d) ≡ count 3 s.marks (area d)

  kept_none : {s : State} → Core d hi lo (area d) s → Kept s s
  kept_none c = record { core = c; up = λ q l. le_refl _; three = λ q l e. e; finished = refl }

  kept_push : {s t : State} → Kept s t → (r : ℕ) → r < area d → mark t r ≡ 1 → Joined d hi lo r → Kept s (push r t)
  kept_push {s} {t} g r l e j = record {
    core = core_push g.core r l e j;
    up = λ q k. ⊎_elim (λ x. let z = ap (mark t) x.0 in omega (arith, g.up q k)) (λ x. omega (arith, g.up q k)) (at q);
    three = λ q k z. ⊎_elim (λ x. absurd (omega arith)) (λ x. g.three q k (sym x.1 ∙ z)) (at q);
    finished = count_same t.marks (area d) r 2 3 g.core.marks_long l (omega arith) (omega arith) ∙ g.finished;
  }
    where
      at : (q : ℕ) → ((q ≡ r) × (mark (push r t) q ≡ 2)) ⊎ ((q ≢ r) × (mark (push r t) q ≡ mark t q))
      at q = at_set t.marks r 2 0 q (omega (arith, g.core.marks_long))

  -- a look at a pixel at or above low leaves it pending or finished
  look_seen : {s : State} → Core d hi lo (area d) s → {r : ℕ} → r < area d → T (lo r) → 2 ≤ mark (look r s) r
  unfolding look
  look_seen {s} c {r} k t = go (has 1 s.marks r) refl
    where
      go : (b : Bool) → has 1 s.marks r ≡ b → 2 ≤ mark (cond b (push r s) s) r
      go true e = omega (arith, get_or-set_same s.marks r 2 0 (omega (arith, c.marks_long)))
      go false e = let n = eqb-false (mark s r) 1 e in omega (arith, (c.right r k).low t)

  -- ---- the nine looks around a pixel that is joined

  module _ {q : ℕ} (l : q < area d) (j : Joined d hi lo q) where
    -- a weak neighbour of it is joined too
    kept_neighbour : (s t : State) → Kept s t → (r : ℕ) → Touch d q r → mark t r ≡ 1 → Kept s (push r t)
    kept_neighbour s t g r k e =
        kept_push g r k.to e (record { seed = j.seed; strong = j.strong; way = on j.way k ((g.core.right r k.to).weak e) })

    -- the kth place is seen to: at or above low it is pending or finished
    abbrev Seen : ℕ → State → Type 0
    Seen k t = Within d (col_at d q k) (row_at d q k) → T (lo (place d (col_at d q k) (row_at d q k))) → 2 ≤ mark t (place d (col_at d q k) (row_at d q k))

    module _ {s : State} (c : Core d hi lo (area d) s) where
      kept_looks : (k : ℕ) → k ≤ 9 → Kept s (looks d q k s)
      kept_looks = looks_keep d (Kept s) (Touch d q) (kept_neighbour s) q (λ k. touch_place d q k l) s (kept_none c)

      looks_seen : (k : ℕ) → k ≤ 9 → (i : ℕ) → i < k → Seen i (looks d q k s)
      unfolding looks
      looks_seen zero h i z = absurd (omega arith)
      looks_seen (suc k) h i z =
          let t = looks d q k s in
          let c' = (kept_looks k (omega arith)).core in
          let g = visit_keeps d (Kept t) (Touch d q) (kept_neighbour t) (col_at d q k) (row_at d q k) (touch_place d q k l h) t (kept_none c') in
          ⊎_elim (λ e. rw e (λ w y. rw (visit_in t w) (look_seen c' (place_in_lem w) y)))
          (λ e w y. let a = looks_seen k (omega arith) i e w y in omega (arith, g.up _ (place_in_lem w))) (below_suc z)

  -- ---- a take

  module _ {s : State} (h : Inv s) (p : 0 < s.pending) where
    kept : Kept (pop s) (taken d s)
    unfolding taken
    kept = kept_looks (last_in h.core p) (last_joined h.core p) (core_pop h.core p) 9 (le_refl 9)

    around : (r : ℕ) → Touch d (last s) r → T (lo r) → 2 ≤ mark (taken d s) r
    unfolding taken
    around r t =
        let m = nth d (last s) r t in
        rw m.is at (looks_seen (last_in h.core p) (last_joined h.core p) (core_pop h.core p) 9 (le_refl 9) m.k m.nine m.in_picture)

    pub take_keeps : Inv (taken d s)
    take_keeps = record {
      core = kept.core;
      closed = λ q r t e y.
          ⊎_elim (λ x. around r (rw x.0 at t) y)
          (λ x.
          let b = h.closed q r t (sym x.1 ∙ kept.three q t.from e) y in
          let u = kept.up r t.to in
          ⊎_elim (λ z. omega arith) (λ z. omega arith) (popped h.core p r))
          (popped h.core p q);
    }

    pub take_finishes : count 3 (taken d s).marks (area d) ≡ suc (count 3 s.marks (area d))
    take_finishes = kept.finished ∙ pop_more h.core p

  -- ---- a start

  bits : (b : Bool) → (bit b ≤ 1) × (bit b ≡ 1 → T b) × (T b → 1 ≤ bit b)
  bits true = (le_refl 1, λ e. tt, λ t. le_refl 1)
  bits false = (zero-le, λ e. absurd (omega arith), λ t. absurd t)

  module _ (above : (q : ℕ) → T (hi q) → T (lo q)) where
    -- nothing is finished while pixels are classed
    abbrev Part : ℕ → State → Type 0
    Part i s = Core d hi lo i s × (count 3 s.marks i ≡ 0)

    one_more : (i : ℕ) (s : State) → i < area d → Part i s → Part (suc i) (class (hi i) (lo i) i s)
    unfolding class
    one_more i s l h = go (hi i) refl
      where
        in_marks : i < length s.marks
        in_marks = omega (arith, h.0.marks_long)

        go : (b : Bool) → hi i ≡ b → Part (suc i) (cond b (push i s) (state (set s.marks i (bit (lo i))) s.stack s.pending))
        go true e =
            let t = is_true e in
            (core_strong h.0 l (record { seed = i; strong = t; way = here l (above i t) }), counted 3 s.marks i 2 in_marks ∙ omega (arith, h.1))
        go false e =
            let b = bits (lo i) in (
              core_weak h.0 l (bit (lo i)) (omega arith)
                  (record { small = omega arith; seen = λ z. absurd (omega arith); weak = b.1; low = b.2; high = λ z. absurd (subst T e z) }),
              omega (arith, counted 3 s.marks i (bit (lo i)) in_marks, ap bit (ne_eqb (bit (lo i)) 3 (omega arith)), h.1),
            )

    all_classed : (s : State) → s.pending ≡ 0 → area d ≤ length s.marks → area d ≤ length s.stack → (i : ℕ) → i ≤ area d → Part i (classed hi lo i s)
    unfolding classed tally
    all_classed s p a b zero l = (
      record { marks_long = a; stack_long = b; inside = omega arith; two = omega arith; once = omega arith; twos = p; right = λ q k. absurd (omega arith) },
      refl,
    )
    all_classed s p a b (suc i) l = one_more i (classed hi lo i s) l (all_classed s p a b i (omega arith))

    pub start_holds : (m s : List ℕ) → area d ≤ length m → area d ≤ length s
        → Inv (started hi lo (area d) m s) × (count 3 (started hi lo (area d) m s).marks (area d) ≡ 0)
    unfolding started
    start_holds m s a b =
        let p = all_classed (state m (cleared (area d) 0 s) 0) refl a (omega (arith, length_filled (area d) (λ i. 0) s b)) (area d) (le_refl _) in
        (record { core = p.0; closed = λ q r t e y. absurd (eqb-false _ _ (tally_zero _ (area d) p.1 q t.from) e) }, p.1)
