-- A test of every entry, in the words of a chain's `all`; and the bits that a float shows. Assumes nothing.
use mathlib.Core.Path.{◌≡◌, refl, sym, ap, ◌∙◌}
use mathlib.Core.Bool.{Bool, true, false, ◌&&◌}
use mathlib.Core.List.{List, [], ◌∷◌}
use Prim.Native.Nat.{ℕ, zero, suc, ◌*◌}
use native.Mathlib.Omega.{arith}
use lib.ListN.{length, get_or}
use Rattle.std.specs.List.{list_all, zip}
use Rattle.std.proofs.Common.{eq-eqb}
use lib.Ieee.{Float, nan, inf, fin, is_nan, eq, up, down, to_bits, binary32}
use Rattle.report.specs.Tests.{every, shown_bits}

and_assoc : (a b c : Bool) → (a && (b && c)) ≡ ((a && b) && c)
and_assoc true b c = refl
and_assoc false b c = refl

and_true : (a : Bool) → (true && a) ≡ (a && true)
and_true true = refl
and_true false = refl

-- the first place apart
every_first : (p : ℕ → Bool) (n : ℕ) → every p (suc n) ≡ (p 0 && every (λ i. p (suc i)) n)
unfolding every
every_first p zero = and_true (p 0)
every_first p (suc n) = ap (λ b. b && p (suc n)) (every_first p n) ∙ sym (and_assoc (p 0) (every (λ i. p (suc i)) n) (p (suc n)))

-- all entries of a list
pub every_of_all : {A : Type 0} (p : A → Bool) (z : A) (xs : List A) → list_all p xs ≡ every (λ i. p (get_or xs i z)) (length xs)
unfolding every
every_of_all p z [] = refl
every_of_all p z (x ∷ xs) =
    ap (λ b. p x && b) (every_of_all p z xs) ∙ sym (every_first (λ i. p (get_or (x ∷ xs) i z)) (length xs))

-- all entries of two lists, in pairs
pub every_of_pairs : {A : Type 0} (same : A → A → Bool) (z : A) (xs ys : List A) → length xs ≡ length ys
    → list_all (λ p. same p.0 p.1) (zip xs ys) ≡ every (λ i. same (get_or xs i z) (get_or ys i z)) (length xs)
unfolding every
every_of_pairs same z [] ys e = refl
every_of_pairs same z (x ∷ xs) [] e = absurd (omega (arith, e))
every_of_pairs same z (x ∷ xs) (y ∷ ys) e =
    ap (λ b. same x y && b) (every_of_pairs same z xs ys (omega (arith, e)))
    ∙ sym (every_first (λ i. same (get_or (x ∷ xs) i z) (get_or (y ∷ ys) i z)) (length xs))

-- ---- a NaN, which alone is not equal to itself

self_equal : (x : Float) → is_nan x ≡ false → eq x x ≡ true
unfolding eq is_nan
self_equal nan e = cc
self_equal (inf true) e = refl
self_equal (inf false) e = refl
self_equal (fin true m d) e = ap (λ b. b && true) (eq-eqb (m * up d * down d) (m * up d * down d) refl)
self_equal (fin false m d) e = ap (λ b. b && true) (eq-eqb (m * up d * down d) (m * up d * down d) refl)

pub shown_nan : (x : Float) → is_nan x ≡ true → 2143289344 ≡ shown_bits x
unfolding eq is_nan
shown_nan nan e = refl
shown_nan (inf s) e = cc
shown_nan (fin s m d) e = cc

pub shown_other : (x : Float) → is_nan x ≡ false → to_bits binary32 x ≡ shown_bits x
shown_other x e = rw (self_equal x e)
