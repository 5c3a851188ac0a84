-- One run: its answer and its map are the same whatever its scratch holds; what is printed for it; what the layout grants it. Assumes nothing.
use mathlib.Core.Path.{◌≡◌, refl, sym, ap, ◌∙◌}
use mathlib.Core.Bool.{Bool, true, false, cond}
use mathlib.Core.List.{List, ◌++◌}
use Prim.Native.Nat.{ℕ, ◌+◌, ◌*◌, ◌/◌, ◌%◌, ◌<◌, ◌≤◌}
use native.Mathlib.Nat.{div-lt_iff_lt-mul}
use native.Mathlib.Omega.{arith}
use lib.Dec.{ltb, eqb}
use lib.ListN.{length, get_or}
use lib.IntN.{pos}
use lib.Ieee.{Float}
use borrow.Author.Tests.{ltb-true}
use Rattle.rules.specs.Picture.{area, tabulate, filled, zeros}
use Rattle.rules.specs.Sums.{plus_zero}
use Rattle.rules.specs.Refusals.{Rule, Scratch, first, run_rows}
use Rattle.rules.specs.Run.{canny, run_edges, count_of, Roomy}
use Rattle.rules.specs.Frame.{fresh_scratch, pixel_text, newline, edges_text, rows_text, refused_text}
use Rattle.rules.specs.declared.Size.{Size}
use Rattle.rules.specs.declared.Thresholds.{Thresholds}
use Rattle.rules.specs.Answers.{Counted}
use Rattle.rules.proofs.Fill.{length_tabulate, tabulate_cong, filled_at}
use Rattle.rules.proofs.Grid.{pixel_in}
use Rattle.rules.proofs.Runs.{front, roomy}
use Rattle.rules.proofs.Tallies.{tally_all}
use Rattle.frame.specs.Running.{shown, ran}
use Rattle.frame.proofs.Writing.{rows_are}

-- ---- what is printed for an answer and a map

module _ (d : Size) where
  abbrev pub text_of : Counted × List ℕ → List ℕ
  text_of x = cond (eqb x.0.refusal 0) (edges_text d x.0.count ++ rows_text d x.1) (refused_text x.0.refusal)

  -- the rows show the first width * height entries alone
  rows_same : (f : ℕ → ℕ) (a b : List ℕ) → rows_text d (filled (area d) f a) ≡ rows_text d (filled (area d) f b)
  rows_same f a b =
      rw (rows_are d (filled (area d) f a), rows_are d (filled (area d) f b)) (tabulate_cong (d.height * (d.width + 1)) _ _ (λ i h. go i h _ refl))
    where
      at : ℕ → ℕ
      at i = i / (d.width + 1) * d.width + i % (d.width + 1)

      go : (i : ℕ) → i < d.height * (d.width + 1) → (c : Bool) → ltb (i % (d.width + 1)) d.width ≡ c
          → cond c (pixel_text (get_or (filled (area d) f a) (at i) 0)) newline ≡ cond c (pixel_text (get_or (filled (area d) f b) (at i) 0)) newline
      go i h true e =
          let line : 0 < d.width + 1 = omega arith in
          let q = pixel_in d (i % (d.width + 1)) (i / (d.width + 1)) (ltb-true _ _ e) ((div-lt_iff_lt-mul line).1 h) in
          ap pixel_text (filled_at (area d) f a _ 0 (at i) refl q ∙ sym (filled_at (area d) f b _ 0 (at i) refl q))
      go i h false e = refl

-- ---- a run

module _ (d : Size) (pixels : List ℕ) (taps : List Float) (t : Thresholds) where
  abbrev rows : List Rule
  rows = front d pixels taps t

  -- what is answered and shown where there is room, by the number and whether it is 0
  abbrev pub pick : Bool → ℕ → List ℕ → Counted × List ℕ
  pick b n out =
      cond b
      (record { refusal = n; count = count_of d (run_edges d pixels taps t) }, filled (area d) (λ q. get_or (run_edges d pixels taps t) q 0) out)
      (record { refusal = n; count = 0 }, out)

  abbrev pub outcome : List ℕ → Counted × List ℕ
  outcome out = pick (eqb (first rows) 0) (first rows) out

  shown_cond : {A B C : Type 0} (b : Bool) (x y : A × (B × C)) → ◌≡◌ {A = A × B} ((cond b x y).0, (cond b x y).1.0) (cond b (x.0, x.1.0) (y.0, y.1.0))
  shown_cond true x y = refl
  shown_cond false x y = refl

  pub any_scratch : (s : Scratch) (out : List ℕ) → Roomy d s out → shown (canny d pixels taps t s out) ≡ outcome out
  unfolding canny
  any_scratch s out r =
      shown_cond (eqb (first (run_rows d pixels taps t s out)) 0) _ _
      ∙ ap (λ (n : ℕ). pick (eqb n 0) n out) (roomy d pixels taps t s out r)

  pub ran_is : (out : List ℕ) → area d ≤ length out → ran d pixels taps t out ≡ outcome out
  unfolding ran
  ran_is out h =
      let f = fresh plus_zero in
      let g = fresh (pos 0) in
      let z : area d ≤ length (zeros (area d)) = fresh 0 in
      any_scratch (fresh_scratch d) out (record { work = f; magnitude = f; gx = g; gy = g; blurred = z; marks = z; stack = z; room = h })
    where
      fresh : {A : Type 0} (z : A) → area d ≤ length (tabulate (area d) (λ i. z))
      fresh z = omega (arith, length_tabulate (area d) (λ i. z))

  pub text_same : (a b : List ℕ) → text_of d (outcome a) ≡ text_of d (outcome b)
  text_same a b = go (eqb (first rows) 0) refl
    where
      go : (c : Bool) → eqb (first rows) 0 ≡ c → text_of d (pick c (first rows) a) ≡ text_of d (pick c (first rows) b)
      go true e = rw (rows_same d (λ q. get_or (run_edges d pixels taps t) q 0) a b)
      go false e = rw e

  -- a run counts at most its pixels
  pub count_few : (out : List ℕ) → (outcome out).0.count ≤ area d
  unfolding count_of
  count_few out = go (eqb (first rows) 0)
    where
      go : (c : Bool) → (pick c (first rows) out).0.count ≤ area d
      go true = tally_all _ (area d)
      go false = omega arith
