-- DEMAND 1 holds of every run. Assumes nothing.
use Prim.Native.Nat.{ℕ, ◌<◌}
use mathlib.Core.Path.{◌≡◌, refl, sym, ap, ◌∙◌}
use mathlib.Core.Bool.{Bool, true, false, cond}
use mathlib.Core.List.{List}
use lib.Dec.{eqb}
use lib.ListN.{get_or, take, drop}
use lib.Ieee.{Float}
use Rattle.rules.specs.Picture.{area, tabulate, filled, tally}
use Rattle.rules.specs.Refusals.{Scratch, first, run_rows, start_rows}
use Rattle.rules.specs.Joined.{Joined, Tells}
use Rattle.rules.specs.Run.{suppressed_of, run_edges, count_of, cleared_scratch, canny, Roomy}
use Rattle.rules.specs.declared.Size.{Size}
use Rattle.rules.specs.declared.Thresholds.{Thresholds}
use Rattle.rules.specs.Answers.{Counted}
use Rattle.rules.proofs.Fill.{filled_at, take_filled, drop_filled}
use Rattle.rules.proofs.Paths.{way_in}
use Rattle.rules.proofs.Runs.{front, roomy}
use Rattle.rules.proofs.Demand.{run_kept}
use Rattle.canny.specs.Demand.{Demand1, hi, lo}
use Rattle.canny.proofs.Running.{startable}
use Rattle.canny.proofs.Walking.{edge_on, edge_off, edges_count}

-- what both answers share
shared : {A B : Type 0} (f : A → B) (b : Bool) (x y : A) (v : B) → f x ≡ v → f y ≡ v → f (cond b x y) ≡ v
shared f true x y v p q = p
shared f false x y v p q = q

-- the answer by the number alone
answered : {L : Type 0} (b : Bool) (n c : ℕ) (x y : L)
    → ◌≡◌ {A = Counted} (cond {A = Counted × L} b (record { refusal = n; count = c }, x) (record { refusal = n; count = 0 }, y)).0 (record { refusal = n; count = cond b c 0 })
answered true n c x y = refl
answered false n c x y = refl

module _ (d : Size) (pixels : List ℕ) (taps : List Float) (t : Thresholds) where
  abbrev edges : List ℕ
  edges = run_edges d pixels taps t

  abbrev after : Scratch → List ℕ → Counted × (List ℕ × Scratch)
  after s map = canny d pixels taps t s map

  abbrev filling : List ℕ → List ℕ
  filling map = filled (area d) (λ q. get_or edges q 0) map

  abbrev by_number : ℕ → Counted
  by_number n = record { refusal = n; count = cond (eqb n 0) (count_of d edges) 0 }

  module _ (s : Scratch) (map : List ℕ) where
    abbrev n : ℕ
    n = first (run_rows d pixels taps t s map)

    past : drop (area d) (after s map).1.0 ≡ drop (area d) map
    unfolding canny
    past =
        shared (λ (a : Counted × (List ℕ × Scratch)). drop (area d) a.1.0) (eqb n 0) _ _ _
        (drop_filled (area d) (λ q. get_or edges q 0) map (filling map) refl) refl

    answer : Roomy d s map → (after s map).0 ≡ by_number (first (front d pixels taps t))
    unfolding canny
    answer r = answered (eqb n 0) n (count_of d edges) (filling map, cleared_scratch d s) (map, s) ∙ ap (λ (k : ℕ). by_number k) (roomy d pixels taps t s map r)

    module _ (e : (after s map).0.refusal ≡ 0) where
      accepted : n ≡ 0
      accepted = sym (run_kept.number (d, pixels, taps, t) (map, s)) ∙ e

      is_accepted : after s map ≡ (record { refusal = 0; count = count_of d edges }, (filling map, cleared_scratch d s))
      unfolding canny
      is_accepted = rw accepted

      map_is : (after s map).1.0 ≡ filling map
      map_is = ap (λ (a : Counted × (List ℕ × Scratch)). a.1.0) is_accepted

      map_at : (q : ℕ) → q < area d → get_or (after s map).1.0 q 0 ≡ get_or edges q 0
      map_at q l = filled_at (area d) (λ q. get_or edges q 0) map (after s map).1.0 0 q map_is l

      first_of_map : take (area d) (after s map).1.0 ≡ tabulate (area d) (λ q. get_or edges q 0)
      first_of_map = take_filled (area d) (λ q. get_or edges q 0) map (after s map).1.0 map_is

      walks : first (start_rows d t (suppressed_of d pixels taps) s.marks s.stack) ≡ 0
      walks = startable d pixels taps t s map accepted

      count_is : (J : ℕ → Bool) → Tells d (hi d pixels taps t) (lo d pixels taps t) J → (after s map).0.count ≡ tally J (area d)
      unfolding run_edges
      count_is J tells =
          ap (λ (a : Counted × (List ℕ × Scratch)). a.0.count) is_accepted
          ∙ edges_count d t (suppressed_of d pixels taps) s.marks s.stack walks J tells

      on : (q : ℕ) → Joined d (hi d pixels taps t) (lo d pixels taps t) q → get_or (after s map).1.0 q 0 ≡ 255
      unfolding run_edges
      on q j = map_at q (way_in d _ j.way) ∙ edge_on d t (suppressed_of d pixels taps) s.marks s.stack walks q j

      off : (q : ℕ) → q < area d → (Joined d (hi d pixels taps t) (lo d pixels taps t) q → ⊥) → get_or (after s map).1.0 q 0 ≡ 0
      unfolding run_edges
      off q l p = map_at q l ∙ edge_off d t (suppressed_of d pixels taps) s.marks s.stack walks q l p

  pub demand_1 : Demand1 d pixels taps t
  demand_1 =
      record {
        same_answer = λ s s' map map' r r'. answer s map r ∙ sym (answer s' map' r');
        same_map = λ s s' map map' e e'. first_of_map s map e ∙ sym (first_of_map s' map' e');
        kept_past = past;
        wiped = λ s map e. ap (λ (a : Counted × (List ℕ × Scratch)). a.1.1) (is_accepted s map e);
        counted = count_is;
        map_on = on;
        map_off = off;
      }
