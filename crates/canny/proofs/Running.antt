-- A whole run: what it answers by its number, what acceptance grants the stages, and what they leave together. Assumes nothing.
use mathlib.Core.Path.{◌≡◌, sym, ap, ◌∙◌}
use mathlib.Core.List.{List}
use Prim.Native.Nat.{ℕ, ◌≤◌, min}
use native.Mathlib.Omega.{arith}
use lib.Dec.{eqb}
use lib.ListN.{length, get_or, take, drop}
use lib.IntN.{ℤ, pos}
use lib.Ieee.{Float, nan}
use borrow.Author.Tests.{ne_eqb}
use Rattle.rules.specs.Picture.{area, tabulate, filled, cleared, tally}
use Rattle.rules.specs.Sums.{plus_zero}
use Rattle.rules.specs.Refusals.{first, Scratch, scratch, run_rows, start_rows}
use Rattle.rules.specs.Run.{suppressed_under, suppressed_of, edges_of, run_edges, count_of, canny, Roomy}
use Rattle.rules.specs.Answers.{number_of, run_answer}
use Rattle.rules.specs.declared.refusal.Refusal.{Refusal}
use Rattle.rules.proofs.Answers.{named}
use Rattle.std.specs.Prelude.{Result, Ok, Err}
use Rattle.rules.specs.declared.Size.{Size}
use Rattle.rules.specs.declared.Thresholds.{Thresholds}
use Rattle.rules.proofs.Fill.{length_tabulate, length_filled, filled_at, take_filled, drop_filled, tabulate_get_d}
use Rattle.rules.proofs.Rows.{off, input_off, rows}
use Rattle.rules.proofs.Runs.{rooms}
use Rattle.rules.proofs.Tallies.{tally_eq}
use Rattle.scratch.specs.Cleared.{cleared_to}
use Rattle.canny.specs.Lent.{accepted, Run, Suppressed, Walkable, Walked}

-- ---- what the whole answers

module _ (d : Size) (pixels : List ℕ) (taps : List Float) (t : Thresholds) (s : Scratch) (out : List ℕ) where
  pub refused : (r : Refusal) {a : Result ℕ Refusal} → a ≡ Err r → number_of r ≡ first (run_rows d pixels taps t s out)
      → (run_answer a, (out, s)) ≡ canny d pixels taps t s out
  unfolding canny
  refused r e n = rw (e, ← n, ne_eqb (number_of r) 0 (named r))

  pub made : {c : ℕ} {left : List ℕ × Scratch} → 0 ≡ first (run_rows d pixels taps t s out) → (c, left) ≡ accepted d pixels taps t s out
      → (run_answer (Ok c), left) ≡ canny d pixels taps t s out
  unfolding canny
  made n e = ap (λ (p : ℕ × (List ℕ × Scratch)). (record { refusal = 0; count = p.0 }, p.1)) e ∙ rw (← n)

-- cleared after the stages is cleared from the start, where there is room
clear_past : {A : Type 0} (n : ℕ) (z : A) (o l : List A) {r : List A} → drop n l ≡ drop n o → n ≤ length l → r ≡ cleared_to n z l → r ≡ cleared n z o
clear_past n z o l p h q = let e : min n (length l) ≡ n = omega arith in (rw e at q) ∙ rw p

-- ---- what acceptance grants

module _ (d : Size) (pixels : List ℕ) (taps : List Float) (t : Thresholds) (s : Scratch) (out : List ℕ) (e : first (run_rows d pixels taps t s out) ≡ 0) where
  pub roomed : Roomy d s out
  roomed = rooms d pixels taps t s out e

  pub granted : Run d pixels taps s.work s.magnitude s.gx s.gy s.blurred
  granted =
      let p = off (run_rows d pixels taps t s out) tt e in
      record {
        sides = p.0;
        long = input_off d pixels p.1.0;
        counted = p.1.1.0;
        weighed = p.1.1.1.0;
        work_room = roomed.work;
        magnitude_room = roomed.magnitude;
        gx_room = roomed.gx;
        gy_room = roomed.gy;
        blurred_room = roomed.blurred;
      }

  -- a walk over the suppressed magnitudes is accepted
  suppressed_long : length (suppressed_of d pixels taps) ≡ area d
  unfolding suppressed_under
  suppressed_long = length_tabulate (area d) _

  pub startable : first (start_rows d t (suppressed_of d pixels taps) s.marks s.stack) ≡ 0
  startable =
      let p = off (run_rows d pixels taps t s out) tt e in
      let l = suppressed_long in
      let r = roomed in
      sym (search rows depth 9)

  -- ---- after the stages up to suppression

  module _ {work' magnitude' : List Float} {gx' gy' : List ℤ} {blurred' : List ℕ}
      (u : Suppressed d pixels taps s.work s.magnitude s.gx s.gy s.blurred work' magnitude' gx' gy' blurred') where
    -- the walk reads the suppressed magnitudes
    read : take (area d) work' ≡ suppressed_of d pixels taps
    read =
        take_filled (area d) _ s.work work' u.is
        ∙ ap (λ (n : ℕ). tabulate n (λ i. get_or (suppressed_of d pixels taps) i nan)) (sym suppressed_long)
        ∙ tabulate_get_d (suppressed_of d pixels taps) nan

    pub walkable : Walkable d t work' s.marks s.stack out
    walkable = record {
      accepted = ap (λ (l : List Float). first (start_rows d t l s.marks s.stack)) read ∙ startable;
      long = omega (arith, ap length u.is ∙ length_filled (area d) _ s.work granted.work_room, granted.work_room);
      room = roomed.room;
    }

    -- ---- after the walk and the clearing

    module _ {marks' stack' out' : List ℕ} (w : Walked d t work' s.marks s.stack out marks' stack' out') where
      out_is : out' ≡ filled (area d) (λ q. get_or (run_edges d pixels taps t) q 0) out
      unfolding run_edges
      out_is = w.is ∙ ap (λ (l : List Float). filled (area d) (λ q. get_or (edges_of d t l) q 0) out) read

      counted : tally (λ q. eqb (get_or out' q 0) 255) (area d) ≡ count_of d (run_edges d pixels taps t)
      unfolding count_of
      counted = tally_eq _ _ (area d) (λ q l. ap (λ (v : ℕ). eqb v 255) (filled_at (area d) _ out out' 0 q out_is l))

      pub ran : {c : ℕ} {work'' magnitude'' : List Float} {gx'' gy'' : List ℤ} {blurred'' marks'' stack'' : List ℕ}
          → Roomy d (scratch work' magnitude' gx' gy' blurred' marks' stack') out'
          → (magnitude'' ≡ cleared_to (area d) plus_zero magnitude')
          × (gx'' ≡ cleared_to (area d) (pos 0) gx')
          × (gy'' ≡ cleared_to (area d) (pos 0) gy')
          × (blurred'' ≡ cleared_to (area d) 0 blurred')
          → (work'' ≡ cleared_to (area d) plus_zero work') × (marks'' ≡ cleared_to (area d) 0 marks') × (stack'' ≡ cleared_to (area d) 0 stack')
          → c ≡ tally (λ q. eqb (get_or out' q 0) 255) (min (area d) (length out'))
          → (c, (out', scratch work'' magnitude'' gx'' gy'' blurred'' marks'' stack'')) ≡ accepted d pixels taps t s out
      ran h a b k =
          let e : min (area d) (length out') ≡ area d = omega (arith, h.room) in
          rw (
            (rw e at k) ∙ counted,
            out_is,
            clear_past (area d) plus_zero s.work work' (drop_filled (area d) _ s.work work' u.is) h.work b.0,
            clear_past (area d) plus_zero s.magnitude magnitude' u.magnitude_kept h.magnitude a.0,
            clear_past (area d) (pos 0) s.gx gx' u.gx_kept h.gx a.1,
            clear_past (area d) (pos 0) s.gy gy' u.gy_kept h.gy a.2,
            clear_past (area d) 0 s.blurred blurred' u.blurred_kept h.blurred a.3,
            clear_past (area d) 0 s.marks marks' w.marks_kept h.marks b.1,
            clear_past (area d) 0 s.stack stack' w.stack_kept h.stack b.2,
          )
