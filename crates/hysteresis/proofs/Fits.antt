-- What a take needs is kept by each part of it, on every state that refusal 9 lets through; and no take writes past the picture. Assumes nothing.
use Prim.Native.Nat.{ℕ, zero, suc, ◌+◌, ◌-◌, ◌≤◌, ◌<◌}
use native.Mathlib.Nat.{le_refl}
use native.Mathlib.Decide.{ℕ_discrete}
use native.Mathlib.Omega.{arith}
use mathlib.Core.Path.{◌≡◌, refl, ◌∙◌}
use mathlib.Core.Logic.{⊎_elim}
use mathlib.Core.Bool.{Bool, true, false, cond}
use mathlib.Core.List.{List}
use lib.Dec.{eqb}
use lib.ListN.{set, drop, length-set}
use lib.Seq.{get_or-set_same, get_or-set_other, drop-set-lt}
use borrow.Author.Tests.{eqb-false}
use Rattle.rules.specs.Picture.{area, bit, cleared}
use Rattle.rules.specs.Walk.{State, state, mark, count, push, pop, last, taken, sliced, class, classed, started}
use Rattle.rules.specs.declared.Size.{Size}
use Rattle.rules.proofs.Fill.{drop_filled}
use Rattle.rules.proofs.Tests.{below_suc}
use Rattle.rules.proofs.Tallies.{count_less, count_same}
use Rattle.hysteresis.specs.Fit.{Fit}
use Rattle.hysteresis.proofs.Places.{place_in_lem}
use Rattle.hysteresis.proofs.Visits.{looks_keep}

module _ {d : Size} where
  module _ (s : State) (h : Fit d s) (r : ℕ) (l : r < area d) (e : mark s r ≡ 1) where
    counted : count 1 s.marks (area d) ≡ suc (count 1 (set s.marks r 2) (area d))
    counted = count_less s.marks (area d) r 2 1 h.marks_long l e (omega arith)

    -- there is room on the stack for a weak pixel
    pub room_for : s.pending < area d
    room_for = omega (arith, counted, h.room)

    -- nor does its mark alone change what fits
    pub fit_marked : Fit d (state (set s.marks r 2) s.stack s.pending)
    fit_marked = record {
      small = h.small;
      marks_long = omega (arith, h.marks_long, length-set s.marks r 2);
      stack_long = h.stack_long;
      room = omega (arith, counted, h.room);
      held = h.held;
    }

    pub fit_push : Fit d (push r s)
    fit_push = record {
      small = h.small;
      marks_long = omega (arith, h.marks_long, length-set s.marks r 2);
      stack_long = omega (arith, h.stack_long, length-set s.stack s.pending r);
      room = omega (arith, counted, h.room);
      held = λ i k.
          ⊎_elim (λ (z : i ≡ s.pending). rw (z, get_or-set_same s.stack s.pending r 0 (omega (arith, room_for, h.stack_long))) l)
          (λ z. omega (arith, get_or-set_other s.stack s.pending i r 0 (omega arith), h.held i z)) (below_suc {n = s.pending} (omega arith));
    }

  module _ {s : State} (h : Fit d s) (p : 0 < s.pending) where
    pub last_in : last s < area d
    last_in = h.held (s.pending - 1) (omega arith)

    pub fit_pop : Fit d (pop s)
    unfolding pop
    fit_pop = record {
      small = h.small;
      marks_long = omega (arith, h.marks_long, length-set s.marks (last s) 3);
      stack_long = omega (arith, h.stack_long, length-set s.stack (s.pending - 1) 0);
      room = go (ℕ_discrete (mark s (last s)) 1);
      held = λ i k. omega (arith, get_or-set_other s.stack (s.pending - 1) i 0 0 (omega arith), h.held i (omega arith));
    }
      where
        go : Dec (mark s (last s) ≡ 1) → s.pending - 1 + count 1 (set s.marks (last s) 3) (area d) ≤ area d
        go (yes e) = omega (arith, count_less s.marks (area d) (last s) 3 1 h.marks_long last_in e (omega arith), h.room)
        go (no e) = omega (arith, count_same s.marks (area d) (last s) 3 1 h.marks_long last_in e (omega arith), h.room)

    pub fit_taken : Fit d (taken d s)
    unfolding taken
    fit_taken = looks_keep d (Fit d) (λ r. r < area d) fit_push (last s) (λ k l. place_in_lem) (pop s) fit_pop 9 (le_refl 9)

-- ---- entries past width * height are never written (01.Refusal.16)

module _ (d : Size) where
  pub record Past (s t : State) : Type 0 where
    pub marks : drop (area d) t.marks ≡ drop (area d) s.marks
    pub stack : drop (area d) t.stack ≡ drop (area d) s.stack

  past_taken : (s : State) → Fit d s → 0 < s.pending → Past s (taken d s)
  unfolding taken pop
  past_taken s h p =
      (looks_keep d (λ t. Fit d t × Past s t) (λ r. r < area d)
      (λ t g r l e. (
        fit_push t g.0 r l e,
        record {
          marks = drop-set-lt (area d) t.marks r 2 l ∙ g.1.marks;
          stack = drop-set-lt (area d) t.stack t.pending r (room_for t g.0 r l e) ∙ g.1.stack;
        },
      ))
      (last s) (λ k l. place_in_lem) (pop s) (
        fit_pop h p,
        record {
          marks = drop-set-lt (area d) s.marks (last s) 3 (last_in h p);
          stack = drop-set-lt (area d) s.stack (s.pending - 1) 0 (omega (arith, h.room));
        },
      )
      9 (le_refl 9)).1

  pub past_sliced : (b : ℕ) (s : State) → Fit d s → Past s (sliced d b s)
  unfolding sliced
  past_sliced zero s h = record { marks = refl; stack = refl }
  past_sliced (suc b) s h = go (eqb s.pending 0) refl (past_sliced b (taken d s))
    where
      go : (c : Bool) → eqb s.pending 0 ≡ c → (Fit d (taken d s) → Past (taken d s) (sliced d b (taken d s))) → Past s (cond c s (sliced d b (taken d s)))
      go true e ih = record { marks = refl; stack = refl }
      go false e ih =
          let n = eqb-false s.pending 0 e in
          let a = past_taken s h (omega arith) in
          let b = ih (fit_taken h (omega arith)) in
          record { marks = b.marks ∙ a.marks; stack = b.stack ∙ a.stack }

  -- nor does a start: no more are pending than are classed
  past_class : (a b : Bool) (i : ℕ) (s t : State) → i < area d → Past s t × (t.pending ≤ i) → Past s (class a b i t) × ((class a b i t).pending ≤ suc i)
  unfolding class
  past_class true b i s t l h =
      let m = drop-set-lt (area d) t.marks i 2 l in
      let k = drop-set-lt (area d) t.stack t.pending i (omega (arith, h.1)) in
      (record { marks = m ∙ h.0.marks; stack = k ∙ h.0.stack }, omega (arith, h.1))
  past_class false b i s t l h = (record { marks = drop-set-lt (area d) t.marks i (bit b) l ∙ h.0.marks; stack = h.0.stack }, omega (arith, h.1))

  past_classed : (hi lo : ℕ → Bool) (s : State) → s.pending ≡ 0 → (i : ℕ) → i ≤ area d → Past s (classed hi lo i s) × ((classed hi lo i s).pending ≤ i)
  unfolding classed
  past_classed hi lo s p zero l = (record { marks = refl; stack = refl }, omega arith)
  past_classed hi lo s p (suc i) l = past_class (hi i) (lo i) i s _ l (past_classed hi lo s p i (omega arith))

  pub past_started : (hi lo : ℕ → Bool) (marks stack : List ℕ) → Past (state marks stack 0) (started hi lo (area d) marks stack)
  unfolding started
  past_started hi lo marks stack =
      let h = (past_classed hi lo (state marks (cleared (area d) 0 stack) 0) refl (area d) (le_refl _)).0 in
      record { marks = h.marks; stack = h.stack ∙ drop_filled (area d) (λ i. 0) stack _ refl }
