-- The terms of the ordered sums as the code forms them: a flipped weight times a row's samples. Assumes nothing.
use mathlib.Core.Path.{◌≡◌, refl, sym, ap, ◌∙◌}
use mathlib.Core.List.{List}
use Prim.Native.Nat.{ℕ, ◌+◌, ◌-◌, ◌*◌, ◌/◌, ◌%◌, ◌<◌, ◌≤◌}
use native.Mathlib.Nat.{add-mul, one-mul, div-add-mod', mod-lt, div-lt_iff_lt-mul, mul_comm}
use native.Mathlib.Omega.{arith}
use lib.ListN.{length, get_or, take, drop, replicate, drop_of_length-le}
use lib.Ieee.{Float, nan}
use Rattle.std.proofs.lemmas.List.{get_or-replicate, length-replicate}
use Rattle.rules.specs.Limits.{max_area}
use Rattle.rules.specs.Picture.{area, filled, cleared}
use Rattle.rules.specs.Border.{resolved, entry_at, sample_at, under}
use Rattle.rules.specs.Sums.{plus_zero}
use Rattle.rules.specs.Filters.{kernel_term}
use Rattle.rules.specs.declared.Size.{Size}
use Rattle.rules.specs.declared.Kernel.{Kernel}
use Rattle.rules.specs.declared.BorderMode.{BorderMode}
use Rattle.rules.specs.declared.Coord.{Coord}
use Rattle.rules.specs.declared.Coord.TheVariants.{At, Nothing, Refused}
use Rattle.rules.proofs.Fill.{recount, filled_by}
use Rattle.rules.proofs.Sums.{one_more_term}
use Rattle.rules.proofs.Grid.{part_at, part_length, row_in_lem}
use Rattle.rules.proofs.Border.{Within, resolved_within}
use Rattle.rules.proofs.Sampling.{place_in, inside, outside, below}
use Rattle.filters.specs.Blocks.{added, row_at, samples_of, sampled, read_row, Block, Kernelled}

-- sums that the library's `fill` has cleared
pub cleared_whole : (o l : List Float) → l ≡ replicate (length o) plus_zero → l ≡ cleared (length l) plus_zero o
cleared_whole o l e =
    let n : length l ≡ length o = ap length e ∙ length-replicate (length o) plus_zero in
    filled_by (length l) _ o l nan (omega arith) (λ i h. rw e (get_or-replicate (length o) i plus_zero nan (omega arith))) (drop_of_length-le l {i = length l} (omega arith) ∙ sym (drop_of_length-le o {i = length l} (omega arith)))

-- places counted from the other end: row kh - 1 - j / kw, column kw - 1 - j % kw
flip_index : (w h j : ℕ) → 0 < w → j < w * h → (h - 1 - j / w) * w + (w - 1 - j % w) ≡ w * h - 1 - j
flip_index w h j p l =
    let q : j / w < h = (div-lt_iff_lt-mul p).1 (omega (arith, mul_comm w h)) in
    let r : j % w < w = mod-lt j p in
    let a = h - 1 - j / w in
    let e : a + (j / w + 1) ≡ h = omega arith in
    let f = ap (λ (z : ℕ). z * w) e in
    omega (arith, add-mul a (j / w + 1) w, add-mul (j / w) 1 w, div-add-mod' j w, mul_comm w h, one-mul w)

-- row r of the picture, as the code lends it
abbrev lent : {A : Type 0} → Size → List A → ℕ → List A
lent d entries r = take (r * d.width + d.width - r * d.width) (drop (r * d.width) entries)

-- read at a resolved column
lent_row : {A : Type 0} (value : A → Float) (missing : A) (d : Size) (entries : List A) (r : ℕ) (c : Coord) → Within d.width c
    → read_row (samples_of value missing (lent d entries r)) c ≡ entry_at plus_zero (samples_of value missing entries) d.width c (At r)
lent_row value missing d entries r (At i) h = ap value (part_at entries (r * d.width) (r * d.width + d.width) d.width refl i missing h)
lent_row value missing d entries r Nothing h = refl
lent_row value missing d entries r Refused h = refl

shuffle : (x i m : ℕ) → x + m + i ≡ x + i + m
shuffle x i m = omega arith

module _ {A : Type 0} {d : Size} {k : Kernel} {entries : List A} {weights : List Float} (K : Kernelled d k entries weights) where
  -- place j of the kernel has a row and a column in it
  pub kernel_place : {j : ℕ} → j < length weights → (j / k.width < k.height) × (j % k.width < k.width)
  kernel_place {j} l =
      let w = K.kernel_wide in
      ((div-lt_iff_lt-mul w).1 (omega (arith, K.count, mul_comm k.width k.height)), mod-lt j w)

  -- row r ends in the picture, which is small
  pub row_ends : {r : ℕ} → r < d.height → (r * d.width + d.width ≤ area d) × (area d ≤ max_area)
  row_ends {r} l = (row_in_lem r d.width d.height l, K.sides.small)

  pub row_length : {r : ℕ} → r < d.height → length (lent d entries r) ≡ d.width
  row_length {r} l = part_length entries (r * d.width) (r * d.width + d.width) d.width refl (omega (arith, K.long, row_in_lem r d.width d.height l))

  -- ---- one more term of each sum of a block: place j of the kernel, and the weight that is read there

  module _ (value : A → Float) (missing : A) (mode : BorderMode) {x y j : ℕ} {weight : Float} {sums out : List Float} (b : Block d x y sums)
      (l : j < length weights) (f : weight ≡ get_or weights (length weights - 1 - j) nan) where
    -- from samples v that are the picture's
    term : (v : ℕ → Float) → ((i : ℕ) → i < length sums → v i ≡ sampled value missing entries d mode (under (x + i) k.width (j % k.width)) (under y k.height (j / k.width)))
        → out ≡ filled (length sums) (added sums v weight) sums
        → out ≡ filled (length sums) (one_more_term sums (λ i. kernel_term (sampled value missing entries d mode) k weights (x + i) y) j) sums
    unfolding kernel_term
    term v s q = recount (length sums) _ _ sums out q (λ i h. rw (s i h, f, K.count, ← flip_index k.width k.height j K.kernel_wide (rw K.count at l)))

    module _ {r : ℕ} (e : r ≡ place_in d.height (resolved mode (under y k.height (j / k.width)) d.height)) where
      -- the row is nowhere
      pub nowhere : d.height ≤ r → out ≡ filled (length sums) (added sums (λ i. plus_zero) weight) sums
          → out ≡ filled (length sums) (one_more_term sums (λ i. kernel_term (sampled value missing entries d mode) k weights (x + i) y) j) sums
      nowhere h =
          term (λ i. plus_zero) (λ i m. below plus_zero (samples_of value missing entries) d mode _ _ (outside mode _ d.height r e (omega (arith, b.row)) h))

      -- its samples are the picture's
      pub in_row : r < d.height
          → out ≡ filled (length sums) (added sums (λ i. row_at value missing (lent d entries r) mode (x + j % k.width + i) (k.width / 2)) weight) sums
          → out ≡ filled (length sums) (one_more_term sums (λ i. kernel_term (sampled value missing entries d mode) k weights (x + i) y) j) sums
      unfolding sample_at row_at
      in_row h =
          term _
          (λ i m.
          let u = under (x + i) k.width (j % k.width) in
          rw (row_length h, shuffle x i (j % k.width), inside mode _ d.height r e h)
          (lent_row value missing d entries r (resolved mode u d.width) (resolved_within mode u d.width (omega (arith, b.columns)))))
