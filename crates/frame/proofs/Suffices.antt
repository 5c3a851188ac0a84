-- 2,369 bytes hold the printout of every file, and what is returned counts bytes of the text. Assumes nothing.
use mathlib.Core.Path.{◌≡◌, refl, sym, ap}
use mathlib.Core.Bool.{Bool, true, false, cond}
use mathlib.Core.List.{List, [], ◌∷◌, ◌++◌}
use Prim.Native.Nat.{ℕ, ◌<◌, ◌≤◌}
use native.Mathlib.Omega.{arith}
use lib.Dec.{eqb}
use lib.ListN.{length, take, drop, length-append}
use lib.Seq.{length-take-le}
use Rattle.rules.specs.Picture.{area, zeros}
use Rattle.rules.specs.Refusals.{Rule, first}
use Rattle.rules.specs.Frame.{breach, frame_size, frame_pixels, frame_taps, thresholds_of, edges_text, rows_text, refused_text, run_text, printout, printed}
use Rattle.rules.specs.declared.Size.{Size}
use Rattle.frame.specs.Room.{text_room, TextFits, Small}
use Rattle.frame.proofs.Breaches.{laid}
use Rattle.frame.proofs.Decimals.{few_digits}
use Rattle.frame.proofs.Writing.{length_refused, length_edges, length_rows, lengths}
use Rattle.rules.proofs.Runs.{front}
use Rattle.frame.proofs.Runs.{pick, text_of, count_few}
use Rattle.frame.proofs.Printouts.{breached, kept, text_by}

refused_fits : (n : ℕ) → n < 100 → length (refused_text n) ≤ text_room
refused_fits n h = omega (arith, length_refused n, few_digits n h)

-- a table's number is one of its rows'
abbrev Numbers : ℕ → List Rule → Type 0
Numbers k [] = Unit
Numbers k (r ∷ rs) = (r.number < k) × Numbers k rs

first_below : (k : ℕ) (rs : List Rule) → 0 < k → Numbers k rs → first rs < k
first_below k [] h p = h
first_below k (r ∷ rs) h p = go r.applies (first_below k rs h p.1)
  where
    go : (b : Bool) → first rs < k → cond b r.number (first rs) < k
    go true l = p.0
    go false l = l

edges_fit : {d : Size} {count : ℕ} (map : List ℕ) → Small d count → length (edges_text d count ++ rows_text d map) ≤ text_room
edges_fit {d} {count} map s = omega (arith, length-append (edges_text d count) (rows_text d map), length_edges d count, length_rows d map, lengths s)

module _ (file : List ℕ) where
  abbrev d : Size
  d = frame_size file

  abbrev rows : List Rule
  rows = front d (frame_pixels file) (frame_taps file) (thresholds_of file)

  run_fits : breach file ≡ false → length (run_text file) ≤ text_room
  run_fits e =
      rw (text_by file (zeros (area d)))
      (go (eqb (first rows) 0) refl (count_few d (frame_pixels file) (frame_taps file) (thresholds_of file) (zeros (area d))))
    where
      go : (b : Bool) → eqb (first rows) 0 ≡ b → (let x = pick d (frame_pixels file) (frame_taps file) (thresholds_of file) b (first rows) (zeros (area d)) in
          x.0.count ≤ area d → length (text_of d x) ≤ text_room)
      go true q k = let l = laid file e in rw q (edges_fit _ (record { wide = l.width; high = l.height; few = omega (arith, k, l.small) }))
      go false q k = rw q (refused_fits (first rows) (first_below 100 rows (omega arith) (omega arith)))

pub text_fits : TextFits
text_fits file = go (breach file) refl
  where
    go : (b : Bool) → breach file ≡ b → length (printout file) ≤ text_room
    go true e = rw (breached file e) (refused_fits 11 (omega arith))
    go false e = rw (kept file e) (run_fits file e)

-- what is returned counts bytes of the text, in the form that lending the text's first bytes asks for
pub counts : {r : ℕ} {now : List ℕ} (file : List ℕ) (read : ℕ) (text : List ℕ) → ◌≡◌ {A = ℕ × List ℕ} (r, now) (printed file read text)
    → (r ≤ length now) × (r ≡ length (take r now))
unfolding printed
counts {r} {now} file read text e =
    let p = printout (take read file) in
    let n = ap (λ (x : ℕ × List ℕ). x.0) e in
    let l = ap (λ (x : ℕ × List ℕ). length x.1) e in
    let h : r ≤ length now = omega (arith, n, l, length-append p (drop (length p) text)) in
    (h, sym (length-take-le r now h))
