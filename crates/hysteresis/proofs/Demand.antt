-- DEMAND 3 of every accepted start and whatever calls follow it, and what a slice's count of takes is worth. Assumes nothing.
use Prim.Native.Nat.{ℕ, zero, suc, ◌+◌, ◌≤◌, ◌<◌, min}
use native.Mathlib.Decide.{ℕ_discrete}
use native.Mathlib.Nat.{add_assoc}
use native.Mathlib.Omega.{arith}
use mathlib.Core.Path.{◌≡◌, refl, sym, ap, ◌∙◌}
use mathlib.Core.Logic.{◌≢◌}
use mathlib.Core.Bool.{Bool, true, false, not, cond}
use mathlib.Core.List.{List, [], ◌∷◌}
use lib.Dec.{T, eqb, eqb→eq}
use lib.ListN.{length, get_or}
use lib.Ieee.{Float, nan}
use lib.Ieee.Scale.{finite}
use borrow.Author.Tests.{eqb-true, eqb-false, eq-eqb, ne_eqb, not-false}
use Rattle.rules.specs.Picture.{area, any_below, tally}
use Rattle.rules.specs.Walk.{State, state, mark, has, count, last, pop, look, visit, looks, taken, started, sliced, takes, unusable, edge}
use Rattle.rules.specs.Refusals.{first, bad_threshold, start_rows, slice_rows, map_rows}
use Rattle.rules.specs.Accepted.{Sides}
use Rattle.rules.specs.Calls as Calls
use Rattle.rules.specs.Calls.{walk_of, after_start, after_slice, slice_takes}
use Rattle.rules.specs.Joined.{Joined, Way, Tells, joined, joined_count}
use Rattle.rules.specs.Joined.Way.{here, on}
use Rattle.rules.specs.declared.Size.{Size}
use Rattle.rules.specs.declared.Thresholds.{Thresholds}
use Rattle.rules.specs.declared.Walk.{Walk}
use Rattle.rules.specs.Answers.{Started}
use Rattle.rules.proofs.Bools.{true_is, is_true, neither}
use Rattle.rules.proofs.Fill.{filled_at}
use Rattle.rules.proofs.Rows.{rows}
use Rattle.rules.proofs.Tallies.{tally_all, tally_le, tally_less, tally_zero}
use Rattle.rules.proofs.Paths.{way_in, joined_tells, joined_count_lem, same_count}
use Rattle.rules.proofs.Demand.{start_kept}
use Rattle.hysteresis.specs.Demand.{Held, Call, GoesOn, AllGoOn, spent_by, after_all, spent, Progress, hi, lo, held_at_start, Demand3}
use Rattle.hysteresis.specs.Demand.Call.{slice, map, start}
use Rattle.hysteresis.proofs.Numbers.{usable_of, Startable, startable}
use Rattle.hysteresis.proofs.Floats.{lower}
use Rattle.hysteresis.proofs.Invariant.{room, last_in, last_two, last_joined}
use Rattle.hysteresis.proofs.Steps.{Inv, take_keeps, take_finishes, start_holds}

-- what a caller holds at the state s
abbrev held_of : Size → State → Held
held_of d s = record { walk = walk_of d s.pending; marks = s.marks; stack = s.stack }

module _ (d : Size) (hi lo : ℕ → Bool) where
  abbrev N : ℕ
  N = joined_count d hi lo

  -- the pixels with mark 3
  abbrev done : State → ℕ
  done s = count 3 s.marks (area d)

  -- ---- one state

  tells : Tells d hi lo (joined d hi lo)
  tells = joined_tells d hi lo

  module _ {s : State} (h : Inv d hi lo s) where
    -- with nothing pending a mark from 2 on is 3
    no_twos : s.pending ≡ 0 → (r : ℕ) → r < area d → 2 ≤ mark s r → mark s r ≡ 3
    no_twos p r l z =
        let n = eqb-false (mark s r) 2 (tally_zero (has 2 s.marks) (area d) (sym h.core.twos ∙ p) r l) in
        omega (arith, (h.core.right r l).small)

    -- and whatever a way reaches from a strong pixel is finished
    reached : s.pending ≡ 0 → {q r : ℕ} → T (hi q) → Way d lo q r → mark s r ≡ 3
    reached p {q} t (here l e) = no_twos p q l ((h.core.right q l).high t)
    reached p t (on {r = r} {t = u} w k e) = no_twos p u k.to (h.closed r u k (reached p t w) e)

    ends : s.pending ≡ 0 → (q : ℕ) → Joined d hi lo q → mark s q ≡ 3
    ends p q j = reached p j.strong j.way

    three_joined : (q : ℕ) → q < area d → mark s q ≡ 3 → Joined d hi lo q
    three_joined q l e = (h.core.right q l).seen (omega arith)

    three_told : (q : ℕ) → q < area d → T (has 3 s.marks q) → T (joined d hi lo q)
    three_told q l t = tells.complete q (three_joined q l (eqb→eq _ _ t))

    -- while something is pending fewer than N are finished
    fewer : 0 < s.pending → done s < N
    fewer p =
        rw (joined_count_lem d hi lo)
        (tally_less (has 3 s.marks) (joined d hi lo) (last s) (ne_eqb (mark s (last s)) 3 (λ e. omega (arith, last_two h.core p)))
        (true_is _ (tells.complete (last s) (last_joined h.core p))) (area d) three_told (last_in h.core p))

    -- at the end N are
    exactly : s.pending ≡ 0 → done s ≡ N
    exactly p =
        omega (
          arith,
          joined_count_lem d hi lo,
          tally_le (has 3 s.marks) (joined d hi lo) (area d) three_told,
          tally_le (joined d hi lo) (has 3 s.marks) (area d) (λ q l t. is_true (eq-eqb _ _ (ends p q (tells.sound q l t)))),
        )

    over : done s ≡ N → s.pending ≡ 0
    over e = go (ℕ_discrete s.pending 0)
      where
        go : Dec (s.pending ≡ 0) → s.pending ≡ 0
        go (yes z) = z
        go (no z) = absurd (omega (arith, fewer (omega arith)))

    -- ---- what the next call is answered

    usable : unusable d s ≡ false
    usable =
        let r = room h.core in
        usable_of d s (record { pending = omega arith; held = h.core.inside; marks = λ q l. (h.core.right q l).small; room = r })

    module _ (sides : Sides d) where
      next : (k : ℕ) → 0 < k → first (slice_rows d k s) ≡ 0
      next k p = let u = usable in let n : k ≢ 0 = omega arith in sym (search rows depth 9)

      module _ (p : s.pending ≡ 0) (out : List ℕ) (l : area d ≤ length out) where
        map_given : first (map_rows d s out) ≡ 0
        map_given = let u = usable in sym (search rows depth 9)

        map_at : (q : ℕ) → q < area d → get_or (Calls.map (walk_of d s.pending) s.marks s.stack out).1 q 0 ≡ edge (mark s q)
        unfolding Calls.map
        map_at q k = rw (eq-eqb _ _ map_given) (filled_at (area d) (λ r. edge (mark s r)) out _ 0 q refl k)

      progress : (b : ℕ) → done s ≡ min N b → Progress d hi lo N b (held_of d s)
      unfolding Calls.slice Calls.map
      progress b e = record {
        finished = e;
        all_joined = three_joined;
        ended = (exactly, over);
        usable = usable;
        next = next;
        map_given = map_given;
        map_on = λ p out l q j. map_at p out l q (way_in d lo j.way) ∙ ap edge (ends p q j);
        map_off = λ p out l q k n. map_at p out l q k ∙ ap (λ (b : Bool). cond b 255 0) (ne_eqb (mark s q) 3 (λ z. n (three_joined q k z)));
      }

  -- ---- a slice: each take finishes one pixel, and it stops only when N are finished

  record Sliced (k b : ℕ) (s t : State) (made : ℕ) : Type 0 where
    inv : Inv d hi lo t
    finished : done t ≡ min N (k + b)
    made_is : done t ≡ done s + made

  slice_keeps : (b : ℕ) (s : State) (k : ℕ) → Inv d hi lo s → done s ≡ min N k → Sliced k b s (sliced d b s) (takes d b s)
  unfolding sliced takes
  slice_keeps zero s k h e = record { inv = h; finished = omega arith; made_is = omega arith }
  slice_keeps (suc b) s k h e = go (eqb s.pending 0) refl (slice_keeps b (taken d s) (k + 1))
    where
      go : (c : Bool) → eqb s.pending 0 ≡ c
          → (Inv d hi lo (taken d s) → done (taken d s) ≡ min N (k + 1) → Sliced (k + 1) b (taken d s) (sliced d b (taken d s)) (takes d b (taken d s)))
          → Sliced k (suc b) s (cond c s (sliced d b (taken d s))) (cond c 0 (suc (takes d b (taken d s))))
      go true z ih = let a = exactly h (eqb-true s.pending 0 z) in record { inv = h; finished = omega arith; made_is = omega arith }
      go false z ih =
          let n = eqb-false s.pending 0 z in
          let p : 0 < s.pending = omega arith in
          let f = fewer h p in
          let t = take_finishes d hi lo h p in
          let a = ih (take_keeps d hi lo h p) (omega arith) in
          record { inv = a.inv; finished = omega (arith, a.finished); made_is = omega (arith, a.made_is) }

  -- a call of slice: accepted, or refused and as if its budget were 0
  call_keeps : (b : ℕ) (s : State) (k : ℕ) → Inv d hi lo s → done s ≡ min N k
      → Sliced k (spent_by (slice b) (held_of d s)) s (after_slice d b s) (slice_takes d b s)
  unfolding Calls.slice after_slice slice_takes
  call_keeps b s k h e = go (eqb (first (slice_rows d b s)) 0)
    where
      go : (c : Bool) → Sliced k (cond c b 0) s (cond c (sliced d b s) s) (cond c (takes d b s) 0)
      go true = slice_keeps b s k h e
      go false = record { inv = h; finished = omega arith; made_is = omega arith }

  -- ---- calls one after another

  record After (calls : List Call) (s : State) (k : ℕ) : Type 0 where
    now : State
    is : after_all calls (held_of d s) ≡ held_of d now
    inv : Inv d hi lo now
    finished : done now ≡ min N (k + spent calls (held_of d s))

  -- a refused start leaves marks and stack
  left : (c : Size) (t : Thresholds) (magnitudes : List Float) (s : State) → GoesOn (start c t magnitudes) (held_of d s)
      → (Calls.start c t magnitudes s.marks s.stack).1 ≡ Calls.lent s
  left c t magnitudes s p = ap (λ (a : Walk × (List ℕ × List ℕ)). a.1) (start_kept.refused (c, t, magnitudes) (s.marks, s.stack) p)

  calls_keep : (calls : List Call) (s : State) (k : ℕ) → Inv d hi lo s → done s ≡ min N k → AllGoOn calls (held_of d s) → After calls s k
  unfolding after_all spent AllGoOn Calls.slice Calls.map
  calls_keep [] s k h e g = record { now = s; is = refl; inv = h; finished = omega arith }
  calls_keep (slice b ∷ cs) s k h e g =
      let a = call_keeps b s k h e in
      let r = calls_keep cs (after_slice d b s) (k + spent_by (slice b) (held_of d s)) a.inv a.finished g.1 in
      record { now = r.now; is = r.is; inv = r.inv; finished = r.finished ∙ ap (min N) (add_assoc k _ _) }
  calls_keep (map out ∷ cs) s k h e g =
      let r = calls_keep cs s k h e g.1 in record { now = r.now; is = r.is; inv = r.inv; finished = omega (arith, r.finished) }
  calls_keep (start c t magnitudes ∷ cs) s k h e g =
      let l = left c t magnitudes s g.0 in
      let r = calls_keep cs s k h e (rw l at g.1) in
      record { now = r.now; is = rw l r.is; inv = r.inv; finished = rw l (omega (arith, r.finished)) }

-- ---- a start by any two tests, of which the higher implies the lower

module _ (d : Size) (hi lo : ℕ → Bool) (above : (q : ℕ) → T (hi q) → T (lo q)) (marks stack : List ℕ) (m : area d ≤ length marks) (s : area d ≤ length stack) where
  abbrev begun : State
  begun = started hi lo (area d) marks stack

  holds : Inv d hi lo begun × (done d hi lo begun ≡ 0)
  holds = start_holds d hi lo above marks stack m s

  after : (calls : List Call) → AllGoOn calls (held_of d begun) → After d hi lo calls begun 0
  after calls g = calls_keep d hi lo calls begun 0 holds.0 (omega (arith, holds.1)) g

  come : Sides d → (J : ℕ → Bool) → Tells d hi lo J → (calls : List Call) → AllGoOn calls (held_of d begun)
      → Progress d hi lo (tally J (area d)) (spent calls (held_of d begun)) (after_all calls (held_of d begun))
  come sides J tells calls g =
      let a = after calls g in
      rw (a.is, same_count d hi lo J _ tells (joined_tells d hi lo), ← joined_count_lem d hi lo)
      (progress d hi lo a.inv sides _ (omega (arith, a.finished)))

  -- a slice with the budget width * height + 1 ends the walk, and then mark 3 tells exactly the joined pixels, whatever the buffers held
  pub started_tells : let t = sliced d (area d + 1) begun in (t.pending ≡ 0) × Tells d hi lo (has 3 t.marks)
  started_tells =
      let a = slice_keeps d hi lo (area d + 1) begun 0 holds.0 (omega (arith, holds.1)) in
      let p = over d hi lo a.inv (omega (arith, a.finished, tally_all (joined d hi lo) (area d), joined_count_lem d hi lo)) in (
        p,
        record {
          sound = λ q l z. three_joined d hi lo a.inv q l (eqb→eq _ _ z);
          complete = λ q j. is_true (eq-eqb _ _ (ends d hi lo a.inv p q j));
        },
      )

  takes_are : (calls : List Call) (b : ℕ) → AllGoOn calls (held_of d begun)
      → let h = after_all calls (held_of d begun) in
      let r = Calls.slice h.walk b h.marks h.stack in
      count 3 r.1.0 (area d) ≡ count 3 h.marks (area d) + r.0.takes
  unfolding Calls.slice
  takes_are calls b g = let a = after calls g in rw a.is (call_keeps d hi lo b a.now _ a.inv a.finished).made_is

-- ---- an accepted start by magnitudes

-- both answers carry the number
either_way : {A : Type 0} (f : A → ℕ) (c : Bool) (x y : A) (n : ℕ) → f x ≡ n → f y ≡ n → f (cond c x y) ≡ n
either_way f true x y n p q = p
either_way f false x y n p q = q

module _ (d : Size) (t : Thresholds) (magnitudes : List Float) (marks stack : List ℕ) (e : (Calls.start d t magnitudes marks stack).0.refusal ≡ 0) where
  number : first (start_rows d t magnitudes marks stack) ≡ 0
  unfolding Calls.start
  number = sym (either_way (λ (a : Started × (List ℕ × List ℕ)). a.0.refusal) (eqb (first (start_rows d t magnitudes marks stack)) 0) _ _ _ refl refl) ∙ e

  ok : Startable d t magnitudes marks stack
  ok = startable d t magnitudes marks stack number

  held_is : held_at_start d t magnitudes marks stack ≡ held_of d (after_start d t magnitudes marks stack)
  unfolding Calls.start
  held_is = rw (eq-eqb _ 0 number)

  is_finite : (x : Float) → bad_threshold x ≡ false → finite x ≡ true
  is_finite x b = not-false _ (neither (not (finite x)) _ b).0

  above : (q : ℕ) → T (hi d t magnitudes marks stack q) → T (lo d t magnitudes marks stack q)
  above q z =
      is_true (lower t.low t.high (get_or magnitudes q nan) (is_finite t.low ok.low) (is_finite t.high ok.high) ok.ordered (true_is _ z))

  pub end_tells : let s = sliced d (area d + 1) (after_start d t magnitudes marks stack) in
      (s.pending ≡ 0) × Tells d (hi d t magnitudes marks stack) (lo d t magnitudes marks stack) (has 3 s.marks)
  unfolding after_start
  end_tells = started_tells d _ _ above marks stack ok.marks_long ok.stack_long

  progress_is : (J : ℕ → Bool) → Tells d (hi d t magnitudes marks stack) (lo d t magnitudes marks stack) J
      → (calls : List Call) → AllGoOn calls (held_at_start d t magnitudes marks stack)
      → let h = held_at_start d t magnitudes marks stack in
      Progress d (hi d t magnitudes marks stack) (lo d t magnitudes marks stack) (tally J (area d)) (spent calls h) (after_all calls h)
  unfolding after_start
  progress_is J tells calls g = rw held_is (come d _ _ above marks stack ok.marks_long ok.stack_long ok.sides J tells calls (rw held_is at g))

  -- ON EVERY STATE THAT A START AND CALLS AFTER IT LEFT, A SLICE'S TAKES ARE ITS NEW MARKS 3
  pub takes_finish : (calls : List Call) (b : ℕ) → AllGoOn calls (held_at_start d t magnitudes marks stack)
      → let h = after_all calls (held_at_start d t magnitudes marks stack) in
      let a = Calls.slice h.walk b h.marks h.stack in
      count 3 a.1.0 (area d) ≡ count 3 h.marks (area d) + a.0.takes
  unfolding after_start
  takes_finish calls b g = rw held_is (takes_are d _ _ above marks stack ok.marks_long ok.stack_long calls b (rw held_is at g))

-- DEMAND 3 holds of every start
pub demand_3 : (d : Size) (t : Thresholds) (magnitudes : List Float) (marks stack : List ℕ) → Demand3 d t magnitudes marks stack
demand_3 d t magnitudes marks stack = record { told = (joined d _ _, joined_tells d _ _); progress = progress_is d t magnitudes marks stack }

-- ---- the takes on every state, forged ones included

-- so many takes, one after another
unfoldable pub again : Size → ℕ → State → State
again d zero s = s
again d (suc k) s = again d k (taken d s)

-- they are the steps of the definition
pub takes_are_steps : (d : Size) (b : ℕ) (s : State) → sliced d b s ≡ again d (takes d b s) s
unfolding sliced takes again
takes_are_steps d zero s = refl
takes_are_steps d (suc b) s = go (eqb s.pending 0) (takes_are_steps d b (taken d s))
  where
    go : (c : Bool) → sliced d b (taken d s) ≡ again d (takes d b (taken d s)) (taken d s)
        → cond c s (sliced d b (taken d s)) ≡ again d (cond c 0 (suc (takes d b (taken d s)))) s
    go true ih = refl
    go false ih = ih

-- A forged state that refusal 9 lets through can break `takes_finish`: one pixel, finished and pending as well.
abbrev pub one : Size
one = record { width = 1; height = 1 }

abbrev pub forged : State
forged = state (3 ∷ []) (0 ∷ []) 1

pub forged_take : (unusable one forged ≡ false) × (takes one 1 forged ≡ 1) × (count 3 (sliced one 1 forged).marks 1 ≡ count 3 forged.marks 1)
unfolding unusable any_below tally takes sliced taken pop looks visit look
forged_take = (refl, refl, refl)
