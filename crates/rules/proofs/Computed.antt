-- A test that passes at each number below n, which the checker computes, holds at each. Assumes nothing.
use mathlib.Core.Path.{◌≡◌, subst, sym}
use mathlib.Core.Bool.{Bool, true, ◌&&◌}
use mathlib.Core.Logic.{⊎_elim}
use Prim.Native.Nat.{ℕ, zero, suc, ◌<◌}
use lib.Dec.{T}
use lib.Ieee.Fits.{and_l, and_r}
use native.Mathlib.Omega.{arith}
use Rattle.rules.proofs.Tests.{below_suc}

abbrev pub passes : (ℕ → Bool) → ℕ → Bool
passes f zero = true
passes f (suc n) = f n && passes f n

pub at : (f : ℕ → Bool) (n : ℕ) → T (passes f n) → (k : ℕ) → k < n → T (f k)
at f zero t k h = absurd (omega arith)
at f (suc n) t k h =
    ⊎_elim (λ (e : k ≡ n). subst (λ (m : ℕ). T (f m)) (sym e) (and_l (f n) (passes f n) t))
    (λ (l : k < n). at f n (and_r (f n) (passes f n) t) k l) (below_suc h)
