-- What is printed for a file: a breach first, then more taps than a run takes, then what the run says. Assumes nothing.
use mathlib.Core.Path.{◌≡◌, refl, sym, ap, ◌∙◌}
use mathlib.Core.Bool.{or-true, true, false}
use mathlib.Core.List.{List, ◌++◌}
use Prim.Native.Nat.{ℕ, ◌+◌, ◌-◌, ◌*◌, ◌%◌, ◌<◌, ◌≤◌}
use native.Mathlib.Omega.{arith}
use lib.Dec.{eqb}
use lib.ListN.{length, drop, take, length-drop}
use lib.Seq.{take_all}
use lib.Ieee.{Float, binary32, of_bits}
use borrow.Author.Tests.{le-ltb, lt-ltb, eq-eqb, ne_eqb}
use Rattle.rules.specs.Limits.{max_side, max_taps}
use Rattle.rules.specs.Picture.{area, filled, zeros}
use Rattle.rules.specs.Refusals.{first, count_row}
use Rattle.rules.specs.Frame.{breach, frame_size, tap_count, pixel_offset, header_length, word_at, frame_taps, frame_pixels, thresholds_of}
use Rattle.rules.specs.Frame.{edges_text, rows_text, refused_text, run_text, printout, placed}
use Rattle.rules.specs.declared.Size.{Size}
use Rattle.rules.specs.Answers.{Counted, run_answer, number_of}
use Rattle.rules.proofs.Fill.{length_tabulate, take_filled}
use Rattle.rules.proofs.Rows.{input_fits}
use Rattle.rules.proofs.Answers.{named}
use Rattle.frame.specs.Room.{Small}
use Rattle.frame.specs.Running.{ran, Edges}
use Rattle.std.specs.Prelude.{Result, Ok, Err, MatchResult}
use Rattle.rules.specs.declared.refusal.Refusal.{Refusal}
use Rattle.frame.proofs.Breaches.{Laid}
use Rattle.rules.proofs.Runs.{front}
use Rattle.frame.proofs.Runs.{outcome, ran_is, text_of, text_same, count_few}

-- more taps than a run takes
many : (n : ℕ) → max_taps < n → (count_row max_taps n).applies ≡ true
many n h = rw (lt-ltb max_taps n h, or-true (eqb (n % 2) 0), or-true (eqb n 0))

module _ (file : List ℕ) where
  abbrev d : Size
  d = frame_size file

  pub breached : breach file ≡ true → printout file ≡ refused_text 11
  unfolding printout
  breached e = rw e

  pub kept : breach file ≡ false → printout file ≡ run_text file
  unfolding printout
  kept e = rw e

  -- what is written is the printout
  pub written : {x : ℕ × List ℕ} (p text : List ℕ) → x ≡ placed p text → printout file ≡ p → x ≡ placed (printout file) text
  written p text q e = rw e q

  -- the run, on a map that holds anything
  abbrev pub run : List ℕ → Counted × List ℕ
  run out = outcome d (frame_pixels file) (frame_taps file) (thresholds_of file) out

  run_is : (out : List ℕ) → area d ≤ length out → ran d (frame_pixels file) (frame_taps file) (thresholds_of file) out ≡ run out
  run_is out h = ran_is d (frame_pixels file) (frame_taps file) (thresholds_of file) out h

  run_text_lem : run_text file ≡ text_of d (ran d (frame_pixels file) (frame_taps file) (thresholds_of file) (zeros (area d)))
  unfolding run_text ran
  run_text_lem = refl

  pub text_by : (out : List ℕ) → run_text file ≡ text_of d (run out)
  text_by out =
      run_text_lem
      ∙ ap (text_of d) (run_is (zeros (area d)) (omega (arith, length_tabulate {A = ℕ} (area d) (λ i. 0))))
      ∙ text_same d (frame_pixels file) (frame_taps file) (thresholds_of file) (zeros (area d)) out

  -- ---- what the layout grants

  pixels_whole : Laid file → length (frame_pixels file) ≡ area d
  unfolding frame_pixels
  pixels_whole l = length-drop (pixel_offset file) file ∙ omega (arith, l.whole)

  taps_counted : length (frame_taps file) ≡ tap_count file
  unfolding frame_taps
  taps_counted = length_tabulate (tap_count file) _

  -- sides and pixels pass, so that the tap count is the first row that applies
  three : Laid file → max_taps < tap_count file → first (front d (frame_pixels file) (frame_taps file) (thresholds_of file)) ≡ 3
  three l h =
      let w = le-ltb max_side d.width (omega (arith, l.width)) in
      let k = le-ltb max_side d.height (omega (arith, l.height)) in
      rw (w, k, input_fits d (frame_pixels file) (pixels_whole l), many (length (frame_taps file)) (omega (arith, taps_counted)))

  pub many_taps : Laid file → max_taps < tap_count file → run_text file ≡ refused_text 3
  many_taps l h = text_by (zeros (area d)) ∙ rw (three l h)

  -- ---- what the run says, of the answer r and the map m that it left

  module _ (out : List ℕ) {m : List ℕ} {r : Counted} (h : area d ≤ length out)
      (e : ◌≡◌ {A = Counted × List ℕ} (r, m) (ran d (frame_pixels file) (frame_taps file) (thresholds_of file) out)) where
    said : run_text file ≡ text_of d (r, m)
    said = text_by out ∙ ap (text_of d) (sym (e ∙ run_is out h))

    pub run_refused : (r.refusal ≡ 0 → ⊥) → run_text file ≡ refused_text r.refusal
    run_refused n = said ∙ rw (ne_eqb r.refusal 0 n)

    pub run_accepted : r.refusal ≡ 0 → run_text file ≡ edges_text d r.count ++ rows_text d m
    run_accepted z = said ∙ rw (eq-eqb r.refusal 0 z)

    pub small_run : Laid file → Small d r.count
    small_run l =
        let q = ap (λ (x : Counted × List ℕ). x.0.count) (e ∙ run_is out h) in
        record { wide = l.width; high = l.height; few = omega (arith, q, count_few d (frame_pixels file) (frame_taps file) (thresholds_of file) out, l.small) }

-- a run that was made of a file, by its answer
pub ended : (file out : List ℕ) {m : List ℕ} (answer : Result ℕ Refusal) → breach file ≡ false → Laid file → area (frame_size file) ≤ length out → length m ≡ length out
    → (run_answer answer, m) ≡ ran (frame_size file) (frame_pixels file) (frame_taps file) (thresholds_of file) out
    → MatchResult answer (Edges file m) (λ refusal. printout file ≡ refused_text (number_of refusal))
ended file out (Ok count) k l h s e =
    record { header = l.header; small = small_run file out h e l; whole = omega (arith, h, s); is = kept file k ∙ run_accepted file out h e refl }
ended file out (Err refusal) k l h s e = kept file k ∙ run_refused file out h e (named refusal)

-- ---- the values that a file holds, as they are lent to the run

module _ (file : List ℕ) {count : ℕ} (k : count ≡ tap_count file) where
  -- the pixels are the file from their offset on
  pub pixels_part : Laid file → take (length file - (header_length + 4 * count)) (drop (header_length + 4 * count) file) ≡ frame_pixels file
  unfolding frame_pixels
  pixels_part l =
      let e : header_length + 4 * count ≡ pixel_offset file = omega (arith, l.offset) in
      rw e (take_all (length file - pixel_offset file) (drop (pixel_offset file) file) (omega (arith, length-drop (pixel_offset file) file)))

  -- the taps are the first `count` of those decoded
  pub taps_part : (old now : List Float) → now ≡ filled count (λ j. of_bits binary32 (word_at file (header_length + 4 * j))) old
      → take count now ≡ frame_taps file
  unfolding frame_taps
  taps_part old now e = take_filled count _ old now e ∙ rw k
