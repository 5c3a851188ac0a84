-- A walk to its end: the start, one slice and the map request are all accepted, and the map is the definition's, whatever the buffers held.
-- Assumes nothing.
use mathlib.Core.Path.{◌≡◌, refl, sym, ap, ◌∙◌}
use mathlib.Core.Bool.{Bool, true, false, cond}
use mathlib.Core.List.{List, [], ◌∷◌}
use Prim.Native.Nat.{ℕ, ◌+◌, ◌<◌, ◌≤◌}
use native.Mathlib.Omega.{arith}
use lib.Dec.{T, eqb}
use lib.ListN.{length, get_or, take, drop}
use lib.Ieee.{Float}
use borrow.Author.Tests.{eq-eqb, ne_eqb}
use Rattle.rules.specs.Picture.{area, zeros, filled, tally}
use Rattle.rules.specs.Walk.{State, has, sliced, takes, at_least, edge, mapped}
use Rattle.rules.specs.Refusals.{first, start_rows, slice_rows, map_rows}
use Rattle.rules.specs.Calls as Calls
use Rattle.rules.specs.Calls.{walk_of, lent, after_start, after_slice, slice_takes}
use Rattle.rules.specs.Joined.{Joined, Tells}
use Rattle.rules.specs.Run.{end_of, edges_of, count_of}
use Rattle.rules.specs.Answers.{Started, Sliced, Mapped}
use Rattle.rules.specs.declared.Size.{Size}
use Rattle.rules.specs.declared.Thresholds.{Thresholds}
use Rattle.rules.specs.declared.Walk.{Walk}
use Rattle.rules.proofs.Bools.{true_is, is_true}
use Rattle.rules.proofs.Fill.{length_tabulate, get_d_tabulate, recount}
use Rattle.rules.proofs.Rows.{off, rows}
use Rattle.rules.proofs.Tallies.{tally_eq}
use Rattle.rules.proofs.Paths.{way_in, same_count}
use Rattle.hysteresis.specs.Demand.{Held, Call, AllGoOn, after_all, spent, Progress, held_at_start}
use Rattle.hysteresis.specs.Demand.Call.{slice}
use Rattle.hysteresis.proofs.Demand.{demand_3, end_tells}
use Rattle.hysteresis.proofs.Fits.{past_started, past_sliced}
use Rattle.hysteresis.proofs.Numbers.{slice_fit}
use Rattle.canny.specs.Lent.{Walkable, Walked}

-- two tests that tell the same pixels agree on each
agree : (a b : Bool) → (T a → T b) → (T b → T a) → a ≡ b
agree true true p q = refl
agree true false p q = absurd (p tt)
agree false true p q = absurd (q tt)
agree false false p q = refl

module _ (d : Size) (t : Thresholds) (magnitudes : List Float) (marks stack : List ℕ) (e : first (start_rows d t magnitudes marks stack) ≡ 0) where
  abbrev begun : State
  begun = after_start d t magnitudes marks stack

  abbrev ended : State
  ended = sliced d (area d + 1) begun

  start_is : Calls.start d t magnitudes marks stack ≡ (record { refusal = 0; walk = walk_of d begun.pending }, lent begun)
  unfolding Calls.start
  start_is = rw e

  -- what a caller holds at the start and at the end
  held_at : State → Held
  held_at s = record { walk = walk_of d s.pending; marks = s.marks; stack = s.stack }

  held_begun : held_at_start d t magnitudes marks stack ≡ held_at begun
  unfolding held_at
  held_begun = ap (λ (a : Started × (List ℕ × List ℕ)). record { walk = a.0.walk; marks = a.1.0; stack = a.1.1 }) start_is

  refusal_is : (Calls.start d t magnitudes marks stack).0.refusal ≡ 0
  refusal_is = ap (λ (a : Started × (List ℕ × List ℕ)). a.0.refusal) start_is

  -- demand 3 after slices
  abbrev h : Held
  h = held_at_start d t magnitudes marks stack

  after : (calls : List Call) → AllGoOn calls h
      → let D = demand_3 d t magnitudes marks stack in
      Progress d (at_least t.high magnitudes) (at_least t.low magnitudes) (tally D.told.0 (area d)) (spent calls h) (after_all calls h)
  after calls g = let D = demand_3 d t magnitudes marks stack in D.progress refusal_is D.told.0 D.told.1 calls g

  slice_accepted : first (slice_rows d (area d + 1) begun) ≡ 0
  unfolding Calls.slice after_all AllGoOn held_at
  slice_accepted = rw held_begun at ((after [] tt).next (area d + 1) (omega arith))

  slice_is : Calls.slice (walk_of d begun.pending) (area d + 1) begun.marks begun.stack
      ≡ (record { refusal = 0; takes = takes d (area d + 1) begun; walk = walk_of d ended.pending }, lent ended)
  unfolding Calls.slice after_slice slice_takes
  slice_is = rw slice_accepted

  held_ended : after_all (slice (area d + 1) ∷ []) (held_at_start d t magnitudes marks stack) ≡ held_at ended
  unfolding after_all held_at
  held_ended =
      ap (λ (h : Held). after_all (slice (area d + 1) ∷ []) h) held_begun
      ∙ ap (λ (a : Sliced × (List ℕ × List ℕ)). record { walk = a.0.walk; marks = a.1.0; stack = a.1.1 }) slice_is

  abbrev finished : (ended.pending ≡ 0) × Tells d (at_least t.high magnitudes) (at_least t.low magnitudes) (has 3 ended.marks)
  finished = end_tells d t magnitudes marks stack refusal_is

  map_is : (out : List ℕ) → area d ≤ length out → Calls.map (walk_of d ended.pending) ended.marks ended.stack out
      ≡ (record { refusal = 0; walk = walk_of d ended.pending }, mapped (area d) ended.marks out)
  unfolding Calls.map AllGoOn held_at
  map_is out room =
      let p = after (slice (area d + 1) ∷ []) (tt, tt) in
      let number : first (map_rows d ended out) ≡ 0 = (rw held_ended at p.map_given) finished.0 out room in
      rw number

  -- ---- the buffers past the picture

  past : (drop (area d) ended.marks ≡ drop (area d) marks) × (drop (area d) ended.stack ≡ drop (area d) stack)
  unfolding after_start
  past =
      let x = past_sliced d (area d + 1) begun (slice_fit d (area d + 1) begun slice_accepted) in
      let y = past_started d (at_least t.high magnitudes) (at_least t.low magnitudes) marks stack in
      (x.marks ∙ y.marks, x.stack ∙ y.stack)

-- ---- the map is the same from any buffers: from these, and from the definition's

module _ (d : Size) (t : Thresholds) (magnitudes : List Float) (marks stack : List ℕ) (e : first (start_rows d t magnitudes marks stack) ≡ 0) where
  zeros_room : area d ≤ length (zeros (area d))
  zeros_room = let e = length_tabulate {A = ℕ} (area d) (λ i. 0) in omega arith

  zeros_accepted : first (start_rows d t magnitudes (zeros (area d)) (zeros (area d))) ≡ 0
  zeros_accepted = let p = off (start_rows d t magnitudes marks stack) tt e in let z = zeros_room in sym (search rows depth 9)

  same_mark : (q : ℕ) → q < area d → has 3 (ended d t magnitudes marks stack e).marks q ≡ has 3 (end_of d t magnitudes).marks q
  unfolding end_of
  same_mark q l =
      let a = (finished d t magnitudes marks stack e).1 in
      let b = (finished d t magnitudes (zeros (area d)) (zeros (area d)) zeros_accepted).1 in
      agree _ _ (λ x. b.complete q (a.sound q l x)) (λ x. a.complete q (b.sound q l x))

  edge_at : (q : ℕ) → q < area d → get_or (edges_of d t magnitudes) q 0 ≡ edge (get_or (end_of d t magnitudes).marks q 0)
  unfolding edges_of
  edge_at q l = get_d_tabulate (area d) _ 0 q l

  edges_are : (out out' : List ℕ) → out' ≡ mapped (area d) (ended d t magnitudes marks stack e).marks out
      → out' ≡ filled (area d) (λ q. get_or (edges_of d t magnitudes) q 0) out
  edges_are out out' p = recount (area d) _ _ out out' p (λ q l. ap (λ (b : Bool). cond b 255 0) (same_mark q l) ∙ sym (edge_at q l))

  -- ---- and it is demand 3's: 255 at the joined pixels, 0 elsewhere

  abbrev hi : ℕ → Bool
  hi = at_least t.high magnitudes

  abbrev lo : ℕ → Bool
  lo = at_least t.low magnitudes

  told : Tells d hi lo (has 3 (end_of d t magnitudes).marks)
  unfolding end_of
  told = (finished d t magnitudes (zeros (area d)) (zeros (area d)) zeros_accepted).1

  pub edge_on : (q : ℕ) → Joined d hi lo q → get_or (edges_of d t magnitudes) q 0 ≡ 255
  edge_on q j = edge_at q (way_in d lo j.way) ∙ ap (λ (b : Bool). cond b 255 0) (true_is (has 3 (end_of d t magnitudes).marks q) (told.complete q j))

  pub edge_off : (q : ℕ) → q < area d → (Joined d hi lo q → ⊥) → get_or (edges_of d t magnitudes) q 0 ≡ 0
  edge_off q l n =
      edge_at q l
      ∙ ap (λ (b : Bool). cond b 255 0) (ne_eqb (get_or (end_of d t magnitudes).marks q 0) 3 (λ z. n (told.sound q l (is_true (eq-eqb _ _ z)))))

  is_edge : (b : Bool) → eqb (cond b 255 0) 255 ≡ b
  is_edge true = refl
  is_edge false = refl

  pub edges_count : (J : ℕ → Bool) → Tells d hi lo J → count_of d (edges_of d t magnitudes) ≡ tally J (area d)
  unfolding count_of
  edges_count J tells =
      tally_eq _ (has 3 (end_of d t magnitudes).marks) (area d) (λ q l. ap (λ (v : ℕ). eqb v 255) (edge_at q l) ∙ is_edge (has 3 (end_of d t magnitudes).marks q))
      ∙ same_count d hi lo (has 3 (end_of d t magnitudes).marks) J told tells

-- ---- the three calls in turn: each is accepted

module _ {d : Size} {t : Thresholds} {suppressed : List Float} {marks stack out : List ℕ} (w : Walkable d t suppressed marks stack out) where
  abbrev S : List Float
  S = take (area d) suppressed

  module _ {r : Started} {m₁ s₁ : List ℕ} (e₁ : (r, (m₁, s₁)) ≡ Calls.start d t S marks stack) where
    at_start : ◌≡◌ {A = Started × (List ℕ × List ℕ)} (r, (m₁, s₁))
        (record { refusal = 0; walk = walk_of d (begun d t S marks stack w.accepted).pending }, lent (begun d t S marks stack w.accepted))
    at_start = e₁ ∙ start_is d t S marks stack w.accepted

    pub start_done : r.refusal ≡ 0
    start_done = ap (λ (a : Started × (List ℕ × List ℕ)). a.0.refusal) at_start

    module _ {w₁ : Walk} (k₁ : r.walk ≡ w₁) {r₂ : Sliced} {m₂ s₂ : List ℕ} (e₂ : (r₂, (m₂, s₂)) ≡ Calls.slice w₁ (area d + 1) m₁ s₁) where
      at_end : ◌≡◌ {A = Sliced × (List ℕ × List ℕ)} (r₂, (m₂, s₂)) (
        record {
          refusal = 0;
          takes = takes d (area d + 1) (begun d t S marks stack w.accepted);
          walk = walk_of d (ended d t S marks stack w.accepted).pending;
        },
        lent (ended d t S marks stack w.accepted),
      )
      at_end =
          (rw (← k₁) at e₂)
          ∙ ap (λ (a : Started × (List ℕ × List ℕ)). Calls.slice a.0.walk (area d + 1) a.1.0 a.1.1) at_start
          ∙ slice_is d t S marks stack w.accepted

      pub slice_done : r₂.refusal ≡ 0
      slice_done = ap (λ (a : Sliced × (List ℕ × List ℕ)). a.0.refusal) at_end

      module _ {w₂ : Walk} (k₂ : r₂.walk ≡ w₂) {r₃ : Mapped} {out' : List ℕ} (e₃ : (r₃, out') ≡ Calls.map w₂ m₂ s₂ out) where
        at_map : ◌≡◌ {A = Mapped × List ℕ} (r₃, out')
            (record { refusal = 0; walk = walk_of d (ended d t S marks stack w.accepted).pending }, mapped (area d) (ended d t S marks stack w.accepted).marks out)
        at_map =
            (rw (← k₂) at e₃)
            ∙ ap (λ (a : Sliced × (List ℕ × List ℕ)). Calls.map a.0.walk a.1.0 a.1.1 out) at_end
            ∙ map_is d t S marks stack w.accepted out w.room

        pub map_done : r₃.refusal ≡ 0
        map_done = ap (λ (a : Mapped × List ℕ). a.0.refusal) at_map

        pub walked : Walked d t suppressed marks stack out m₂ s₂ out'
        walked = record {
          is = edges_are d t S marks stack w.accepted out out' (ap (λ (a : Mapped × List ℕ). a.1) at_map);
          marks_kept = ap (λ (a : Sliced × (List ℕ × List ℕ)). drop (area d) a.1.0) at_end ∙ (past d t S marks stack w.accepted).0;
          stack_kept = ap (λ (a : Sliced × (List ℕ × List ℕ)). drop (area d) a.1.1) at_end ∙ (past d t S marks stack w.accepted).1;
        }
