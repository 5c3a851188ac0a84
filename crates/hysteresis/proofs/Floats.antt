-- What is at or above high is at or above low, on thresholds that a start accepts: the order of finite floats is transitive. Assumes nothing.
use Prim.Native.Nat.{ℕ, ◌+◌, ◌*◌, ◌≤◌, ◌<◌}
use native.Mathlib.Nat.{eq-or-lt_of_le, mul-le-mul_right, le_of_mul-le-mul_right, zero-mul}
use native.Mathlib.Omega.{arith}
use mathlib.Core.Path.{◌≡◌, refl, sym}
use mathlib.Core.Logic.{⊎_elim}
use mathlib.Core.Bool.{Bool, true, false, ◌||◌}
use lib.Dec.{ltb, eqb}
use lib.Ieee.{Float, nan, inf, fin, up, down, below, level, lt, le, eq}
use lib.Ieee.Fits.{down_pos}
use lib.Ieee.Scale.{finite}
use borrow.Author.Tests.{ltb-true, ltb-false, eqb-true, lt-ltb, le-ltb, eq-eqb}
use Rattle.rules.proofs.Bools.{both, either, clash}

-- a number's parts above and below zero: ±X is the first less the second
abbrev over : Bool → ℕ → ℕ
over false X = X
over true X = 0

abbrev under : Bool → ℕ → ℕ
under false X = 0
under true X = X

-- ±X ≤ ±Y
abbrev Le : Bool → ℕ → Bool → ℕ → Type 0
Le s X t Y = over s X + under t Y ≤ over t Y + under s X

-- at or below, by the float's own comparison
to : (s t : Bool) (X Y : ℕ) → (below s X t Y || level s X t Y) ≡ true → Le s X t Y
to false false X Y e = ⊎_elim (λ h. omega (arith, ltb-true X Y h)) (λ h. omega (arith, eqb-true X Y (both (eqb X Y) _ h).0)) (either (ltb X Y) _ e)
to false true X Y e = let h = both (eqb X Y) (eqb X 0) e in omega (arith, eqb-true X Y h.0, eqb-true X 0 h.1)
to true false X Y e = omega arith
to true true X Y e = ⊎_elim (λ h. omega (arith, ltb-true Y X h)) (λ h. omega (arith, eqb-true X Y (both (eqb X Y) _ h).0)) (either (ltb Y X) _ e)

of : (s t : Bool) (X Y : ℕ) → Le s X t Y → (below s X t Y || level s X t Y) ≡ true
of false false X Y h =
    ⊎_elim (λ (e : X ≡ Y). simp (le-ltb X Y (omega arith), eq-eqb X Y e)) (λ (l : X < Y). simp (lt-ltb X Y l)) (eq-or-lt_of_le (omega arith))
of false true X Y h = simp (eq-eqb X Y (omega arith), eq-eqb X 0 (omega arith))
of true false X Y h =
    ⊎_elim (λ (e : 0 ≡ X + Y). simp (le-ltb 0 (X + Y) (omega arith), eq-eqb X Y (omega arith), eq-eqb X 0 (omega arith)))
    (λ (l : 0 < X + Y). simp (lt-ltb 0 (X + Y) l)) (eq-or-lt_of_le (omega arith))
of true true X Y h =
    ⊎_elim (λ (e : Y ≡ X). simp (le-ltb Y X (omega arith), eq-eqb X Y (sym e))) (λ (l : Y < X). simp (lt-ltb Y X l)) (eq-or-lt_of_le (omega arith))

-- not above is at or below
total : (s t : Bool) (X Y : ℕ) → below t Y s X ≡ false → Le s X t Y
total false false X Y e = omega (arith, ltb-false Y X e)
total false true X Y e = omega (arith, ltb-false 0 (Y + X) e)
total true false X Y e = omega arith
total true true X Y e = omega (arith, ltb-false X Y e)

-- a part of a product
over_mul : (s : Bool) (a y : ℕ) → over s (a * y) ≡ over s a * y
over_mul false a y = refl
over_mul true a y = omega (arith, zero-mul y)

under_mul : (s : Bool) (a y : ℕ) → under s (a * y) ≡ under s a * y
under_mul false a y = omega (arith, zero-mul y)
under_mul true a y = refl

-- fractions with the denominators x, y, z: the middle one is multiplied out and cancelled
cancel : (a a' b b' c c' x y z : ℕ) → 0 < y → a * y + b' * x ≤ b * x + a' * y → b * z + c' * y ≤ c * y + b' * z → a * z + c' * x ≤ c * x + a' * z
cancel a a' b b' c c' x y z p h k = le_of_mul-le-mul_right {k = y} (omega (arith, mul-le-mul_right z h, mul-le-mul_right x k)) p

trans : (s t u : Bool) (a b c x y z : ℕ) → 0 < y → Le s (a * y) t (b * x) → Le t (b * z) u (c * y) → Le s (a * z) u (c * x)
trans s t u a b c x y z p h k =
    simp (over_mul, under_mul)
    (cancel (over s a) (under s a) (over t b) (under t b) (over u c) (under u c) x y z p (simp (over_mul, under_mul) at h) (simp (over_mul, under_mul) at k))

-- low is not above high, and high is at most m: so low is
pub lower : (low high m : Float) → finite low ≡ true → finite high ≡ true → lt high low ≡ false → le high m ≡ true → le low m ≡ true
unfolding lt le eq
lower nan high m a b c e = absurd (clash a refl)
lower (inf s) high m a b c e = absurd (clash a refl)
lower (fin s α x) nan m a b c e = absurd (clash b refl)
lower (fin s α x) (inf t) m a b c e = absurd (clash b refl)
lower (fin s α x) (fin t β y) nan a b c e = absurd (clash e refl)
lower (fin s α x) (fin t β y) (inf u) a b c e = e
lower (fin s α x) (fin t β y) (fin u γ z) a b c e =
    of s u _ _ (trans s t u (α * up x) (β * up y) (γ * up z) (down x) (down y) (down z) (down_pos y) (total s t _ _ c) (to t u _ _ e))
