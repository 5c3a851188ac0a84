-- A picture that is written row by row, and a row that is written block by block. Assumes nothing.
use mathlib.Core.Path.{◌≡◌, ap, ◌∙◌}
use mathlib.Core.List.{List}
use Prim.Native.Nat.{ℕ, ◌+◌, ◌-◌, ◌*◌, ◌/◌, ◌%◌, ◌<◌, ◌≤◌, min}
use native.Mathlib.Nat.{zero-add, zero-mul, one-mul, add-mul, mul_comm, mul-le-mul_right}
use native.Mathlib.Omega.{arith}
use lib.ListN.{length, get_or, length-take, length-drop}
use lib.Ieee.{Float, nan}
use borrow.Rule.Slice.PartMut.{put_mid, mid_of}
use Rattle.rules.specs.Picture.{area, by_pixel, filled}
use Rattle.rules.specs.Sums.{to_byte}
use Rattle.rules.specs.declared.Size.{Size}
use Rattle.rules.proofs.Fill.{Filling, filling_start, filling_part, filling_end, fill_start, fill_whole, mid_unread, filled_at}
use Rattle.rules.proofs.Grid.{row_in_lem, column_of_lem, row_of_lem}

-- a part that is written whole, by the count of its entries
whole_part : {A : Type 0} (a k : ℕ) (g : ℕ → A) (l part : List A) → a + k ≤ length l → let m = mid_of a (a + k - a) l in part ≡ filled (length m) g m → part ≡ filled k g m
whole_part a k g l part h p = let e : length (mid_of a (a + k - a) l) ≡ k = simp (length-take, length-drop) (omega arith) in rw e at p

-- ---- y rows of a picture are written

pub rows_start : {A : Type 0} (d : Size) (f : ℕ → ℕ → A) (o : List A) → Filling (area d) (0 * d.width) (by_pixel d f) o o
rows_start d f o = rw zero-mul filling_start

-- a picture without columns has no row to write
pub rows_none : {A : Type 0} (d : Size) (f : ℕ → ℕ → A) (o : List A) → d.width ≡ 0 → o ≡ filled (area d) (by_pixel d f) o
rows_none d f o e = let z : area d ≡ 0 = rw e (zero-mul d.height) in filling_end (rows_start d f o) (omega (arith, z))

module _ {A : Type 0} (d : Size) (f : ℕ → ℕ → A) {y : ℕ} {o l : List A} (p : Filling (area d) (y * d.width) (by_pixel d f) o l) where
  pub rows_more : {g : ℕ → A} {part : List A} → area d ≤ length o → y < d.height → ((x : ℕ) → g x ≡ f x y)
      → part ≡ filled d.width g (mid_of (y * d.width) (y * d.width + d.width - y * d.width) l)
      → Filling (area d) ((y + 1) * d.width) (by_pixel d f) o (put_mid (y * d.width) (y * d.width + d.width - y * d.width) l part)
  rows_more room h e q =
      rw (add-mul, one-mul)
      (filling_part room (row_in_lem y d.width d.height h) p q (λ x m. rw (column_of_lem y m, row_of_lem y m) (e x)))

  -- the same of a row that is lent, and written whole
  pub rows_lent : {g : ℕ → A} {part : List A} → area d ≤ length o → y < d.height → ((x : ℕ) → g x ≡ f x y)
      → let m = mid_of (y * d.width) (y * d.width + d.width - y * d.width) l in part ≡ filled (length m) g m
      → Filling (area d) ((y + 1) * d.width) (by_pixel d f) o (put_mid (y * d.width) (y * d.width + d.width - y * d.width) l part)
  rows_lent room h e q =
      rows_more room h e (whole_part (y * d.width) d.width _ l _ (omega (arith, p.same, row_in_lem y d.width d.height h)) q)

  pub rows_end : d.height ≤ y → l ≡ filled (area d) (by_pixel d f) o
  rows_end h = filling_end p (omega (arith, mul-le-mul_right d.width h, mul_comm d.width d.height))

-- ---- k blocks of a row of w bytes are written, each from sums that stand in a short buffer

pub blocks_start : {A : Type 0} (w : ℕ) (f : ℕ → A) (o : List A) → Filling w (min 0 w) f o o
blocks_start w f o = let z : min 0 w ≡ 0 = omega arith in rw z filling_start

-- the next one begins in the row
pub block_in : {w k c : ℕ} → c ≡ w / 108 + min 1 (w % 108) → k < c → k * 108 < w
block_in e l = omega arith

pub blocks_more : {w : ℕ} (k : ℕ) {n : ℕ} (f : ℕ → Float) (s : List Float) {o l part : List ℕ} {block : List Float} → w ≤ length o → k * 108 < w → n ≡ min 108 (w - k * 108) → 108 ≤ length s
    → Filling w (min (k * 108) w) (λ x. to_byte (f x)) o l
    → let b = mid_of 0 n s in block ≡ filled (length b) (λ i. f (k * 108 + i)) b
    → let m = mid_of (k * 108) (k * 108 + n - k * 108) l in part ≡ filled (length m) (λ i. to_byte (get_or (mid_of 0 n (put_mid 0 n s block)) i nan)) m
    → Filling w (min ((k + 1) * 108) w) (λ x. to_byte (f x)) o (put_mid (k * 108) (k * 108 + n - k * 108) l part)
blocks_more {w} k {n} f s {o} {l} {part} {block} room h e z p q t =
    let x : min (k * 108) w ≡ k * 108 = omega arith in
    let y : min ((k + 1) * 108) w ≡ k * 108 + n = omega arith in
    let g : ℕ → Float = λ i. f (k * 108 + i) in
    let sums = put_mid 0 n s block in
    let a : n - 0 ≡ n = omega arith in
    let u : sums ≡ filled n g s = rw a at (fill_whole 0 n g g s s {part = block} (omega arith) (omega arith) (fill_start g s) (rw a q) (λ i m. rw zero-add)) in
    let v : (i : ℕ) → i < n → get_or (mid_of 0 n sums) i nan ≡ g i =
    λ i m. mid_unread 0 n g sums sums nan i (fill_start g sums) m ∙ rw zero-add (filled_at n g s sums nan i u m) in
    rw y (filling_part room (omega arith) (rw x at p) (whole_part (k * 108) n _ l part (omega (arith, p.same)) t) (λ i m. ap to_byte (v i m)))
