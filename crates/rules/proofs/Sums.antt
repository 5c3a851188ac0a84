-- Ordered sums, term by term, and over a whole row at once. Assumes nothing.
use mathlib.Core.Path.{◌≡◌, refl, ap, ◌∙◌}
use mathlib.Core.List.{List}
use Prim.Native.Nat.{ℕ, ◌+◌, ◌<◌, ◌≤◌}
use native.Mathlib.Numerals.{add-one}
use native.Mathlib.Omega.{arith}
use lib.ListN.{length, get_or}
use lib.Ieee.{Float, nan, binary32, add}
use Rattle.rules.specs.Picture.{filled}
use Rattle.rules.specs.Sums.{plus_zero, ordered_sum}
use Rattle.rules.proofs.Fill.{filled_at, refill, still, length_filled}

-- one more term
sum_more : (t : ℕ → Float) (k : ℕ) (s v : Float) → s ≡ ordered_sum t k → v ≡ t k → add binary32 s v ≡ ordered_sum t (k + 1)
unfolding ordered_sum
sum_more t k s v p q = rw (add-one, p, q)

-- ---- w sums side by side: sum x has the terms t x 0, t x 1, ..

-- after the first k terms of each
abbrev pub summed : ℕ → (ℕ → ℕ → Float) → ℕ → List Float → List Float
summed w t k o = filled w (λ x. ordered_sum (t x) k) o

-- entry x with its term k added
abbrev pub one_more_term : List Float → (ℕ → ℕ → Float) → ℕ → ℕ → Float
one_more_term l t k x = add binary32 (get_or l x nan) (t x k)

no_terms : (w : ℕ) (t : ℕ → ℕ → Float) (o r : List Float) → r ≡ filled w (λ x. plus_zero) o → r ≡ summed w t 0 o
unfolding ordered_sum
no_terms w t o r e = e

one_more : (w : ℕ) (t : ℕ → ℕ → Float) (k : ℕ) (o l r : List Float) → l ≡ summed w t k o → r ≡ filled w (one_more_term l t k) l → r ≡ summed w t (k + 1) o
one_more w t k o l r p q =
    refill w (λ x. ordered_sum (t x) k) (one_more_term l t k) (λ x. ordered_sum (t x) (k + 1)) o l r p q
    (λ x h. sum_more (t x) k _ _ (filled_at w (λ x. ordered_sum (t x) k) o l nan x p h) refl)

-- THE INVARIANT of a loop over the terms of w sums side by side, after k of `most`; `o` is the row as it was cleared
pub record Summing (w most k : ℕ) (t : ℕ → ℕ → Float) (o l : List Float) : Type 0 where
  pub within : k ≤ most
  pub room : w ≤ length l
  pub same : length l ≡ length o
  pub is : l ≡ summed w t k o

-- cleared from e
pub summing_start : {w most : ℕ} {t : ℕ → ℕ → Float} {o : List Float} (e : List Float) → w ≤ length e → o ≡ filled w (λ x. plus_zero) e
    → Summing w most 0 t o o
summing_start {w} {most} {t} {o} e h p =
    record {
      within = omega arith;
      room = omega (arith, ap length p ∙ length_filled w (λ x. plus_zero) e h);
      same = refl;
      is = no_terms w t o o (still w (λ x. plus_zero) e o p);
    }

pub summing_more : {w most k : ℕ} {t : ℕ → ℕ → Float} {o l r : List Float} → k < most → Summing w most k t o l → r ≡ filled w (one_more_term l t k) l
    → Summing w most (k + 1) t o r
summing_more {w} {most} {k} {t} {o} {l} {r} m p q =
    let s = ap length q ∙ length_filled w (one_more_term l t k) l p.room in
    record { within = omega arith; room = omega (arith, p.room); same = s ∙ p.same; is = one_more w t k o l r p.is q }

pub summing_end : {w most k : ℕ} {t : ℕ → ℕ → Float} {o l : List Float} (e : List Float) → o ≡ filled w (λ x. plus_zero) e → Summing w most k t o l → most ≤ k
    → l ≡ summed w t most e
summing_end {w} {most} {k} {t} {o} {l} e q p h =
    let n : k ≡ most = omega (arith, p.within) in
    refill w (λ x. plus_zero) (λ x. ordered_sum (t x) most) (λ x. ordered_sum (t x) most) e o l q (rw n at p.is) (λ x m. refl)
