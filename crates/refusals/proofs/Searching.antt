-- A search of a lent buffer's first entries is the definition's test of its indexes. Assumes nothing.
use mathlib.Core.Path.{◌≡◌, refl}
use mathlib.Core.Bool.{Bool, true, false, ◌||◌}
use mathlib.Core.List.{List, [], ◌∷◌}
use Prim.Native.Nat.{ℕ, zero, suc, ◌≤◌}
use native.Mathlib.Omega.{arith}
use lib.ListN.{length, get_or, take}
use Rattle.std.specs.List.{list_any}
use Rattle.rules.specs.Picture.{any_below}

or_assoc : (a b c : Bool) → ((a || b) || c) ≡ (a || (b || c))
or_assoc true b c = refl
or_assoc false b c = refl

-- the first index apart
any_front : (p : ℕ → Bool) (n : ℕ) → any_below p (suc n) ≡ (p 0 || any_below (λ k. p (suc k)) n)
unfolding any_below
any_front p zero = or_false (p 0)
  where
    or_false : (b : Bool) → (false || b) ≡ (b || false)
    or_false true = refl
    or_false false = refl
any_front p (suc n) = rw (any_front p n) (or_assoc (p 0) (any_below (λ k. p (suc k)) n) (p (suc n)))

module _ {X : Type 0} (test : X → Bool) where
  pub any_of_first : (xs : List X) (d : X) (n : ℕ) → n ≤ length xs → list_any test (take n xs) ≡ any_below (λ k. test (get_or xs k d)) n
  unfolding any_below
  any_of_first xs d zero h = refl
  any_of_first [] d (suc n) h = absurd (omega arith)
  any_of_first (x ∷ xs) d (suc n) h = rw (any_front (λ k. test (get_or (x ∷ xs) k d)) n, any_of_first xs d n (omega arith)) refl

  pub any_of_all : (xs : List X) (d : X) → list_any test xs ≡ any_below (λ k. test (get_or xs k d)) (length xs)
  unfolding any_below
  any_of_all [] d = refl
  any_of_all (x ∷ xs) d = rw (any_front (λ k. test (get_or (x ∷ xs) k d)) (length xs), any_of_all xs d) refl
