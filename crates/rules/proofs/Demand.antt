-- DEMAND 1 holds of each public call, and a picture with a side of 0 changes nothing: one law for all that write by `answered`, and the walk
-- and the whole run by themselves. Assumes nothing.
use mathlib.Core.Path.{◌≡◌, refl, sym, ap, ap₂, ◌∙◌}
use mathlib.Core.Bool.{Bool, true, false, cond}
use mathlib.Core.List.{List}
use mathlib.Core.Option.{Option, none}
use Prim.Native.Nat.{ℕ, zero, suc, ◌≤◌}
use native.Mathlib.Omega.{arith}
use lib.Dec.{eqb, ltb}
use lib.IntN.{ℤ, pos, negsuc}
use lib.Ieee.{Float}
use borrow.Author.Tests.{eq-eqb, ne_eqb, eqb-true, ltb-false}
use Rattle.rules.specs.Picture.{area, tabulate, filled, tally}
use Rattle.rules.specs.Border.{resolved, coord_says}
use Rattle.rules.specs.Walk.{State, state, started, classed, sliced, takes, unusable}
use Rattle.rules.specs.Refusals.{Rule, first, Scratch, coord_rows, start_rows, slice_rows, run_rows}
use Rattle.rules.specs.Calls as Calls
use Rattle.rules.specs.Calls.{accepted, answered, lent, sides_of, after_start, after_slice, slice_takes}
use Rattle.rules.specs.Run.{count_of, canny}
use Rattle.rules.specs.Demand.{plain, Kept, Demand1OfEach, coord_call, kernel_call, separable_call, blur_call, box_call}
use Rattle.rules.specs.Demand.{sharpen_call, median_call, gradient_call, sobel_call, magnitude_call, suppression_call, start_call, slice_call, map_call, run_call}
use Rattle.rules.specs.declared.Size.{Size}
use Rattle.rules.specs.declared.Thresholds.{Thresholds}
use Rattle.rules.specs.declared.BorderMode.{BorderMode}
use Rattle.rules.specs.declared.BorderMode.TheVariants.{Zero, Clamp, Mirror}
use Rattle.rules.specs.declared.Coord.{Coord}
use Rattle.rules.specs.declared.Coord.TheVariants.{At, Nothing}
use Rattle.rules.specs.Answers.{Started, Counted}
use Rattle.rules.proofs.Bools.{neither}
use Rattle.rules.proofs.Rows.{off}

-- ---- what both outcomes share

-- refused, what was there
kept : {A : Type 0} (n : ℕ) (x y : A) → (n ≡ 0 → ⊥) → accepted n x y ≡ y
kept n x y p = rw (ne_eqb n 0 p)

-- whatever both outcomes have
both : {A B : Type 0} (f : A → B) (b : Bool) (x y : A) {v : B} → f x ≡ v → f y ≡ v → f (cond b x y) ≡ v
both f true x y p q = p
both f false x y p q = q

-- no entries are written
none_filled : {A : Type 0} (n : ℕ) (f : ℕ → A) (l : List A) → n ≡ 0 → filled n f l ≡ l
unfolding tabulate
none_filled n f l e = rw e

-- ---- calls that answer with their number alone and write one buffer, or two

writes : {Given L : Type 0} {sides : Given → Size} {rows : Given → L → List Rule} {call : Given → L → ℕ × L} (done : Given → L → L)
    → ((g : Given) (l : L) → call g l ≡ answered (first (rows g l)) (done g l) l) → ((g : Given) (l : L) → area (sides g) ≡ 0 → done g l ≡ l)
    → Kept (plain Given L sides rows call)
writes {Given = Given} {L = L} {rows = rows} {call = call} done is idle =
    record {
      number = λ g l. ap (λ (a : ℕ × L). a.0) (is g l);
      refused = λ g l p. ap (λ (x : L). (tt, x)) (left g l ∙ kept (first (rows g l)) (done g l) l (λ z. p (ap (λ (a : ℕ × L). a.0) (is g l) ∙ z)));
      unchanged = λ g l e. left g l ∙ both (λ x. x) (eqb (first (rows g l)) 0) (done g l) l (idle g l e) refl;
      uncounted = λ g l e. refl;
    }
  where
    left : (g : Given) (l : L) → (call g l).1 ≡ accepted (first (rows g l)) (done g l) l
    left g l = ap (λ (a : ℕ × L). a.1) (is g l)

writes_one : {Given A : Type 0} {sides : Given → Size} {rows : Given → List A → List Rule} {call : Given → List A → ℕ × List A} (f : Given → ℕ → A)
    → ((g : Given) (l : List A) → call g l ≡ answered (first (rows g l)) (filled (area (sides g)) (f g) l) l)
    → Kept (plain Given (List A) sides rows call)
writes_one {sides = sides} f is = writes (λ g l. filled (area (sides g)) (f g) l) is (λ g l. none_filled (area (sides g)) (f g) l)

writes_two : {Given A B : Type 0} {sides : Given → Size} {rows : Given → List A × List B → List Rule}
    {call : Given → List A × List B → ℕ × (List A × List B)} (f : Given → ℕ → A) (h : Given → ℕ → B)
    → ((g : Given) (l : List A × List B) → call g l ≡ answered (first (rows g l)) (filled (area (sides g)) (f g) l.0, filled (area (sides g)) (h g) l.1) l)
    → Kept (plain Given (List A × List B) sides rows call)
writes_two {sides = sides} f h is =
    writes (λ g l. (filled (area (sides g)) (f g) l.0, filled (area (sides g)) (h g) l.1)) is
    (λ g l e. ap₂ (λ x y. (x, y)) (none_filled (area (sides g)) (f g) l.0 e) (none_filled (area (sides g)) (h g) l.1 e))

kernel_kept : Kept kernel_call
unfolding Calls.apply_kernel
kernel_kept = writes_one _ (λ g l. refl)

sharpen_kept : Kept sharpen_call
unfolding Calls.sharpen
sharpen_kept = writes_one _ (λ g l. refl)

median_kept : Kept median_call
unfolding Calls.median
median_kept = writes_one _ (λ g l. refl)

sobel_kept : Kept sobel_call
unfolding Calls.sobel
sobel_kept = writes_one _ (λ g l. refl)

magnitude_kept : Kept magnitude_call
unfolding Calls.gradient_magnitude
magnitude_kept = writes_one _ (λ g l. refl)

suppression_kept : Kept suppression_call
unfolding Calls.non_maximum_suppression
suppression_kept = writes_one _ (λ g l. refl)

separable_kept : Kept separable_call
unfolding Calls.apply_separable_kernel
separable_kept = writes_two _ _ (λ g l. refl)

blur_kept : Kept blur_call
unfolding Calls.gaussian_blur
blur_kept = writes_two _ _ (λ g l. refl)

box_kept : Kept box_call
unfolding Calls.box_blur
box_kept = writes_two _ _ (λ g l. refl)

gradient_kept : Kept gradient_call
unfolding Calls.sobel_gradients
gradient_kept = writes_two _ _ (λ g l. refl)

-- ---- one coordinate: no rule of a border refuses

answers : (mode : BorderMode) (c : ℤ) (side : ℕ) → (coord_says (resolved mode c side)).0 ≡ 0
answers Zero (pos n) side = both (λ (a : Coord). (coord_says a).0) (ltb n side) (At n) Nothing refl refl
answers Zero (negsuc n) side = refl
answers Clamp c side = refl
answers Mirror c side = refl

coord_kept : Kept coord_call
unfolding Calls.resolve_coord
coord_kept =
    record {
      number = λ g l. number g.0 g.1 g.2;
      refused = λ g l p. ap (λ (a : ℕ × Option ℕ). (a.1, l)) (kept (first (coord_rows g.1)) _ _ (λ z. p (number g.0 g.1 g.2 ∙ z)));
      unchanged = λ g l e. refl;
      uncounted = λ g l e. refl;
    }
  where
    number : (c : ℤ) (side : ℕ) (mode : BorderMode) → (Calls.resolve_coord c side mode).0 ≡ first (coord_rows side)
    number c side mode = go (eqb (first (coord_rows side)) 0) refl
      where
        go : (b : Bool) → eqb (first (coord_rows side)) 0 ≡ b
            → (cond b (coord_says (resolved mode c side)) (first (coord_rows side), none)).0 ≡ first (coord_rows side)
        go true e = answers mode c side ∙ sym (eqb-true _ 0 e)
        go false e = refl

-- ---- the walk

module _ (d : Size) (t : Thresholds) (magnitudes : List Float) (marks stack : List ℕ) where
  abbrev answer : Started × (List ℕ × List ℕ)
  answer = Calls.start d t magnitudes marks stack

  start_number : answer.0.refusal ≡ first (start_rows d t magnitudes marks stack)
  unfolding Calls.start
  start_number = both (λ (a : Started × (List ℕ × List ℕ)). a.0.refusal) (eqb (first (start_rows d t magnitudes marks stack)) 0) _ _ refl refl

  -- a start over no pixels writes nothing, and nothing is pending
  empty : area d ≡ 0 → after_start d t magnitudes marks stack ≡ state marks stack 0
  unfolding after_start started classed tabulate
  empty e = rw e

  start_idle : area d ≡ 0 → (answer.1 ≡ (marks, stack)) × (answer.0.walk.pending ≡ 0)
  unfolding Calls.start
  start_idle e =
      let n = eqb (first (start_rows d t magnitudes marks stack)) 0 in (
        both (λ (a : Started × (List ℕ × List ℕ)). a.1) n _ _ (ap lent (empty e)) refl,
        both (λ (a : Started × (List ℕ × List ℕ)). a.0.walk.pending) n _ _ (ap (λ (s : State). s.pending) (empty e)) refl,
      )

pub start_kept : Kept start_call
unfolding Calls.start
start_kept =
    record {
      number = λ g l. start_number g.0 g.1 g.2 l.0 l.1;
      refused = λ g l p. rw (ne_eqb (first (start_call.rows g l)) 0 (λ z. p (start_number g.0 g.1 g.2 l.0 l.1 ∙ z)));
      unchanged = λ g l e. (start_idle g.0 g.1 g.2 l.0 l.1 e).0;
      uncounted = λ g l e. (start_idle g.0 g.1 g.2 l.0 l.1 e).1;
    }

-- with nothing pending there are no takes
ended : (d : Size) (b : ℕ) (s : State) → s.pending ≡ 0 → (sliced d b s ≡ s) × (takes d b s ≡ 0)
unfolding sliced takes
ended d zero s e = (refl, refl)
ended d (suc b) s e = (rw (eq-eqb _ 0 e), rw (eq-eqb _ 0 e))

-- and in a picture of no pixels nothing is pending
none_pending : (d : Size) (b : ℕ) (s : State) → area d ≡ 0 → first (slice_rows d b s) ≡ 0 → s.pending ≡ 0
unfolding unusable
none_pending d b s z e =
    let p = off (slice_rows d b s) tt e in
    let l : s.pending ≤ area d = ltb-false _ _ (neither (ltb (area d) s.pending) _ p.1.1.1.1.0).0 in
    omega arith

slice_idle : (d : Size) (b : ℕ) (s : State) → area d ≡ 0 → (after_slice d b s ≡ s) × (slice_takes d b s ≡ 0)
unfolding after_slice slice_takes
slice_idle d b s z = go (eqb (first (slice_rows d b s)) 0) refl
  where
    go : (c : Bool) → eqb (first (slice_rows d b s)) 0 ≡ c → (cond c (sliced d b s) s ≡ s) × (cond c (takes d b s) 0 ≡ 0)
    go true e = ended d b s (none_pending d b s z (eqb-true _ 0 e))
    go false e = (refl, refl)

slice_kept : Kept slice_call
unfolding Calls.slice after_slice slice_takes
slice_kept =
    record {
      number = λ g l. refl;
      refused = λ g l p. rw (ne_eqb (first (slice_call.rows g l)) 0 p);
      unchanged = λ g l e. ap lent (slice_idle (sides_of g.0) g.1 (state l.0 l.1 g.0.pending) e).0;
      uncounted = λ g l e. (slice_idle (sides_of g.0) g.1 (state l.0 l.1 g.0.pending) e).1;
    }

map_kept : Kept map_call
unfolding Calls.map
map_kept =
    record {
      number = λ g l. refl;
      refused = λ g l p. ap (λ (x : List ℕ). (g.0, x)) (kept (first (map_call.rows g l)) _ l p);
      unchanged = λ g l e. both (λ x. x) (eqb (first (map_call.rows g l)) 0) _ l (none_filled _ _ l e) refl;
      uncounted = λ g l e. refl;
    }

-- ---- the whole run

module _ (d : Size) (pixels : List ℕ) (taps : List Float) (t : Thresholds) (s : Scratch) (map : List ℕ) where
  abbrev ran : Counted × (List ℕ × Scratch)
  ran = canny d pixels taps t s map

  abbrev n : ℕ
  n = first (run_rows d pixels taps t s map)

  run_number : ran.0.refusal ≡ n
  unfolding canny
  run_number = both (λ (a : Counted × (List ℕ × Scratch)). a.0.refusal) (eqb n 0) _ _ refl refl

  run_unchanged : area d ≡ 0 → ran.1 ≡ (map, s)
  unfolding canny tabulate
  run_unchanged e = both (λ (a : Counted × (List ℕ × Scratch)). a.1) (eqb n 0) _ _ (rw e) refl

  run_uncounted : area d ≡ 0 → ran.0.count ≡ 0
  unfolding canny count_of tally
  run_uncounted e = both (λ (a : Counted × (List ℕ × Scratch)). a.0.count) (eqb n 0) _ _ (rw e) refl

pub run_kept : Kept run_call
unfolding canny
run_kept =
    record {
      number = λ g l. run_number g.0 g.1 g.2 g.3 l.1 l.0;
      refused = λ g l p. rw (ne_eqb (first (run_call.rows g l)) 0 (λ z. p (run_number g.0 g.1 g.2 g.3 l.1 l.0 ∙ z)));
      unchanged = λ g l e. run_unchanged g.0 g.1 g.2 g.3 l.1 l.0 e;
      uncounted = λ g l e. run_uncounted g.0 g.1 g.2 g.3 l.1 l.0 e;
    }

-- DEMAND 1 OF EACH PUBLIC CALL
pub demand_1_of_each : Demand1OfEach
demand_1_of_each = (
  coord_kept,
  (
    kernel_kept,
    (
      separable_kept,
      (
        blur_kept,
        (
          box_kept,
          (
            sharpen_kept,
            (
              median_kept,
              (
                gradient_kept,
                (
                  sobel_kept,
                  (
                    magnitude_kept,
                    (suppression_kept, (start_kept, (slice_kept, (map_kept, (run_kept, tt))))),
                  ),
                ),
              ),
            ),
          ),
        ),
      ),
    ),
  ),
)
