-- One weight over a block of sums, from samples that are read in step. Assumes nothing.
use mathlib.Core.Path.{◌≡◌, refl, ap, ◌∙◌}
use mathlib.Core.List.{List}
use Prim.Native.Nat.{ℕ, ◌+◌, ◌-◌, ◌<◌, ◌≤◌}
use native.Mathlib.Nat.{zero-add, add_assoc}
use native.Mathlib.Omega.{arith}
use lib.ListN.{length, get_or, set, take, drop}
use lib.IntN.{pos, ◌-ℤ◌}
use lib.Ieee.{Float, nan, binary32, add}
use borrow.Rule.Slice.PartMut.{put_mid, mid_of}
use Rattle.rules.specs.Picture.{filled}
use Rattle.rules.specs.Border.{resolved}
use Rattle.rules.specs.Sums.{plus_zero, product}
use Rattle.rules.specs.declared.BorderMode.{BorderMode}
use Rattle.rules.proofs.Fill.{fill_start, fill_more, unread, fill_whole, mid_unread, length_filled}
use Rattle.rules.proofs.Grid.{part_at}
use Rattle.rules.proofs.Border.{diff, resolved_inside}
use Rattle.rules.proofs.Sampling.{place_in, inside, outside}
use Rattle.filters.specs.Blocks.{added, samples_of, row_at, Inner}

-- one more sum has its product, of the sample s; the sum that is read is still the one at entry
pub adding_more : (o l : List Float) (v : ℕ → Float) (w : Float) {i : ℕ} {s : Float} → i < length o → l ≡ filled i (added o v w) o → s ≡ v i
    → set l i (add binary32 (get_or l i nan) (product s w)) ≡ filled (i + 1) (added o v w) o
adding_more o l v w {i} h p e = fill_more i (added o v w) o l _ h p (rw (e, unread i (added o v w) o l nan h p))

module _ {A : Type 0} (value : A → Float) (missing : A) (row : List A) (mode : BorderMode) (at half : ℕ) where
  -- ---- a row's sample at coordinate at - half, by the coordinate's place p
  module _ {p : ℕ} (e : p ≡ place_in (length row) (resolved mode (pos at -ℤ pos half) (length row))) where
    pub row_cell : p < length row → samples_of value missing row p ≡ row_at value missing row mode at half
    unfolding row_at
    row_cell h = rw (inside mode (pos at -ℤ pos half) (length row) p e h)

    pub row_nowhere : 0 < length row → length row ≤ p → plus_zero ≡ row_at value missing row mode at half
    unfolding row_at
    row_nowhere s h = rw (outside mode (pos at -ℤ pos half) (length row) p e s h)

  -- ---- one weight over n coordinates of a row, in three parts: before the row, in it, after it
  abbrev edges : ℕ → ℕ → Float
  edges a i = row_at value missing row mode (a + i) half

  module _ (o : List Float) (w : Float) where
    -- a part from a to e, whose samples v are the row's
    segment : (a e : ℕ) {l part : List Float} (v : ℕ → Float) → a ≤ e → e ≤ length o → l ≡ filled a (added o (edges at) w) o
        → let m = mid_of a (e - a) l in part ≡ filled (length m) (added m v w) m → ((i : ℕ) → i < e - a → v i ≡ edges at (a + i))
        → put_mid a (e - a) l part ≡ filled e (added o (edges at) w) o
    segment a e {l} {part} v p q r m s =
        fill_whole a e _ _ o l p q r m (λ i h. rw (mid_unread a (e - a) _ o l nan i r (omega arith), s i (omega arith)))

    module _ {lo hi s : ℕ} (c : Inner at half (length row) (length o) lo hi s) where
      -- the columns of the row from s on are the coordinates from lo to hi
      columns : (i : ℕ) → i < hi - lo → samples_of value missing (take (s + (hi - lo) - s) (drop s row)) i ≡ edges at (lo + i)
      unfolding row_at
      columns i h =
          let e : s + half ≡ at + lo = c.column (omega arith) in
          let k : at + (lo + i) - half ≡ s + i = omega arith in
          let own = resolved_inside mode (s + i) (length row) (omega (arith, c.in_row)) in
          rw (part_at row s (s + (hi - lo)) (hi - lo) refl i missing h, diff (at + (lo + i)) half (omega arith), k, own)

      pub three_parts : {p q r : List Float}
          → let o₀ = mid_of 0 lo o in p ≡ filled (length o₀) (added o₀ (edges at) w) o₀
          → let l₁ = put_mid 0 lo o p in
          let o₁ = mid_of lo (hi - lo) l₁ in q ≡ filled (length o₁) (added o₁ (samples_of value missing (take (s + (hi - lo) - s) (drop s row))) w) o₁
          → let l₂ = put_mid lo (hi - lo) l₁ q in
          let o₂ = mid_of hi (length l₂ - hi) l₂ in r ≡ filled (length o₂) (added o₂ (edges (at + hi)) w) o₂
          → put_mid hi (length l₂ - hi) l₂ r ≡ filled (length o) (added o (edges at) w) o
      three_parts {p} {q} e f g =
          let b = c.rising in
          let l = c.last in
          let z : lo - 0 ≡ lo = omega arith in
          let v = added o (edges at) w in
          let first : put_mid 0 lo o p ≡ filled lo v o =
          rw z at (segment 0 lo {part = p} (edges at) (omega arith) (omega arith) (fill_start _ o) (rw z e) (λ i h. rw zero-add)) in
          let second : put_mid lo (hi - lo) (put_mid 0 lo o p) q ≡ filled hi v o = segment lo hi _ b l first f columns in
          let k : length (put_mid lo (hi - lo) (put_mid 0 lo o p) q) ≡ length o = ap length second ∙ length_filled hi v o l in
          rw k (segment hi (length o) (edges (at + hi)) l (omega arith) second (rw k at g) (λ i h. rw add_assoc))
